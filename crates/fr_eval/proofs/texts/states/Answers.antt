use Rattle.std.proofs.Common.{ap, refl, ◌∙◌, ◌++◌, ◌∷◌, [], append_assoc}
use Rattle.std.specs.Fmt.{decimal}
use Rattle.fr_eval.proofs.texts.states.Goals as goal

pub returns-clause-text : goal.returns-clause-text
returns-clause-text g c = λ t stands.
    let n = c.states-states.result in (
      decimal n ++ 10 ∷ [],
      record { size = n; is_size = c.states-states.ensures.size t stands; ends = refl },
      c.in_ok-push.ensures.items ∙ ap (λ l. l ++ 10 ∷ []) c.in_ok-push_number.ensures ∙ append_assoc _ (decimal n) (10 ∷ []),
    )

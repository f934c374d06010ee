use Rattle.std.proofs.Common.{ℕ, ap, refl, subst, ◌∙◌, ◌++◌, ◌∷◌, [], append_assoc}
use Rattle.fr_machine.specs.Rows.{row_term}
use Rattle.fr_growth.specs.Classes.{IsClass}
use Rattle.fr_growth.specs.Texts.{class_text}
use Rattle.fr_eval.proofs.AnswerLaws.{IsClass-alike}
use Rattle.fr_eval.proofs.texts.growth.Goals as goal

pub returns-clause-text : goal.returns-clause-text
returns-clause-text g c = λ t stands.
    let m = c.in_ok-m.m in
    let k = c.in_ok-class.field-0 in
    let found = subst (λ (d : ℕ). IsClass d (row_term m.rows 0) k) c.in_ok-m.ensures.alphabet c.in_ok-class.ensures.class in (
      class_text k ++ 10 ∷ [],
      record { class = k; is_class = IsClass-alike _ (row_term m.rows 0) t k (c.in_ok-m.ensures.alike t stands) found; ends = refl },
      c.in_ok-push.ensures.items ∙ ap (λ l. l ++ 10 ∷ []) c.in_ok-print_class.ensures.ok ∙ append_assoc _ (class_text k) (10 ∷ []),
    )

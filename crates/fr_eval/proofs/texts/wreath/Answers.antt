use Rattle.std.proofs.Common.{ap, refl, sym, ◌≡◌, ◌∙◌, ◌++◌, ◌∷◌, [], append_assoc}
use Rattle.fr_model.specs.Automata.{state_at}
use Rattle.fr_machine.specs.Rows.{state_of, states_of, row_at}
use Rattle.fr_machine.proofs.RowLaws.{state_is_row}
use Rattle.fr_canon.specs.Texts.{wreath_text}
use Rattle.fr_eval.proofs.texts.wreath.Goals as goal

pub returns-clause-text : goal.returns-clause-text
returns-clause-text g c = λ t stands.
    let m = c.in_ok-m.m in
    let valid = c.machine-2.ensures.valid.machine in
    let same : state_of c.wreath.result ≡ state_at (states_of m.rows) 0 = ap state_of (c.wreath.ensures.value ∙ ap (λ v. row_at v.rows 0) c.machine-2.ensures.value) ∙ sym (state_is_row m.alphabet m.rows valid 0 valid.least) in (
      wreath_text (state_at (states_of m.rows) 0) ++ 10 ∷ [],
      record { states = states_of m.rows; canonical = c.in_ok-m.ensures.canonical t stands; ends = refl },
      c.in_ok-push.ensures.items ∙ ap (λ l. l ++ 10 ∷ []) (c.in_ok-push_wreath.ensures ∙ ap (λ q. c.args.out.now.items ++ wreath_text q) same) ∙ append_assoc _ (wreath_text (state_at (states_of m.rows) 0)) (10 ∷ []),
    )

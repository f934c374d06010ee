use Rattle.std.proofs.Common.{ℕ, ◌≡◌, ◌∙◌, sym, ap, subst, List}
use Rattle.fr_machine.specs.declared.row.Row.{Row}
use Rattle.fr_machine.specs.Rows.{row_term}
use Rattle.fr_model.specs.Terms.{IsAlike}
use Rattle.fr_model.specs.Canonical.{IsCode}
use Rattle.fr_canon.proofs.canonical.canon.Goals as goal

pub returns-clause-only : goal.returns-clause-only
returns-clause-only c = λ t code h k.
    let rows : c.args.m.now.rows ≡ c.rows.result.now = sym (c.rows.ensures.value ∙ ap (λ m. m.rows) c.machine-machine.ensures.value) in
    let alphabet : c.args.m.now.alphabet ≡ c.alphabet.result = sym (c.alphabet.ensures.value ∙ ap (λ m. m.alphabet) c.machine-machine.ensures.value) in
    let P : List Row → Type 0 = λ rs. IsAlike (row_term rs c.args.s) t in
    let Q : ℕ → Type 0 = λ d. IsCode d t code in
    c.canon_rows.ensures.only t code (subst P rows h) (subst Q alphabet k)

use Rattle.std.proofs.Common.{◌∙◌, ap, sym, subst, List}
use Rattle.fr_model.specs.Automata.{State}
use Rattle.fr_model.specs.Canonical.{IsCanonical}
use Rattle.fr_model.proofs.CodeLaws.{IsCanonical-alike}
use Rattle.fr_machine.specs.Rows.{states_of, row_term}
use Rattle.fr_canon.proofs.canonical.canonical_machine.Goals as goal

pub returns-clause-alike : goal.returns-clause-alike
returns-clause-alike c = λ t e.
    let P : List State → Type 0 = λ qs. IsCanonical c.args.a t qs in
    let found = c.in_ok-found.found.items in
    subst P (ap (λ m. states_of m.rows) (sym (c.of.ensures ∙ c.from_rows.ensures))) (IsCanonical-alike c.args.a (row_term c.args.rows.now c.args.s) t (states_of found) e c.in_ok-found.ensures.canonical)

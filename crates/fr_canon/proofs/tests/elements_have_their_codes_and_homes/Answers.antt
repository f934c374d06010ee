use Rattle.std.proofs.Common.{ℕ, arith, refl, subst, ◌<◌, length}
use Rattle.fr_model.specs.Canonical.{IsCanonical, IsCode}
use Rattle.fr_model.proofs.AutomatonLaws.{IsTerm-state_term}
use Rattle.fr_model.proofs.CanonicalLaws.{at_zero}
use Rattle.fr_machine.specs.Rows.{states_of, row_term}
use Rattle.fr_canon.proofs.tests.elements_have_their_codes_and_homes.Goals as goal

pub rows_of_code-requires-clause-code : goal.rows_of_code-requires-clause-code
rows_of_code-requires-clause-code g c =
    let a = c.expect-a.result in
    let m = c.in_ok-b.b in
    let t = row_term m.rows 0 in
    let is : IsCanonical a t (states_of m.rows) = c.in_ok-b.ensures.canonical in
    let first = at_zero a t (states_of m.rows) is in
    let some : 0 < length (states_of m.rows) = omega (arith, first.0, is.count) in
    let P : ℕ → Type 0 = λ d. IsCode d t c.canon.new.out in
    (t, IsTerm-state_term a (states_of m.rows) 0 is.automaton some, subst P c.in_ok-b.ensures.alphabet c.canon.ensures.code)

pub home-requires : goal.home-requires
home-requires g c = record { power = (3, omega arith, refl) }

pub home-requires-2 : goal.home-requires-2
home-requires-2 g c = record { power = (21, omega arith, refl) }

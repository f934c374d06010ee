use Rattle.std.proofs.Common.{arith, ℕ, ◌≡◌, subst, length, [], ◌∷◌, ◌++◌}
use Rattle.fr_model.specs.Automata.{next_state}
use Rattle.fr_model.specs.Classes.{IsSize}
use Rattle.fr_model.proofs.CodeLaws.{IsCanonical-alike, canonical-IsSize}
use Rattle.fr_machine.specs.Rows.{state_of, states_of, row_term}
use Rattle.fr_canon.specs.Listings.{row_output, IsListed}
use Rattle.fr_canon.proofs.ListingLaws.{IsListed-start, IsListed-more, IsCanonical-listed}
use Rattle.fr_canon.proofs.canonical.count_states.Goals as goal

pub loop-done-init : goal.loop-done-init
loop-done-init c =
    let m = c.args.rows.now in
    ([], IsListed-start c.args.a (length m) (next_state (states_of m)) (row_output (states_of m)) c.args.s c.begin.new.walk.keys c.requires.row c.begin.ensures)

pub loop-done-preserved : goal.loop-done-preserved
loop-done-preserved c =
    let m = c.args.rows.now in
    let h = c.loop-done.invariant in
    let q = state_of c.list_row.result in
    (h.0 ++ q ∷ [], IsListed-more c.args.a (length m) (next_state (states_of m)) (row_output (states_of m)) c.args.s c.loop-done.walk c.list_row.new.walk c.loop-done.done c.key-key.result h.0 q h.1 (omega (arith, c.loop-done-test.true, c.count.ensures.value)) c.key-key.ensures.value c.list_row.ensures.listed)

pub returns-clause-size : goal.returns-clause-size
returns-clause-size c = λ t e.
    let m = c.args.rows.now in
    let d = c.args.a in
    let h = c.loop-done.invariant in
    let all : c.loop-done.done ≡ length c.loop-done.walk.keys = omega (arith, c.loop-done-test.false, c.count.ensures.value, h.1.done) in
    let P : ℕ → Type 0 = λ j. IsListed d (length m) (next_state (states_of m)) (row_output (states_of m)) c.args.s c.loop-done.walk.keys j h.0 in
    let a = IsCanonical-listed d m c.requires.machine c.requires.unlike c.args.s c.requires.row c.loop-done.walk.keys h.0 (subst P all h.1) c.count.ensures.valid in
    let Q : ℕ → Type 0 = λ n. IsSize d t n in
    subst Q h.1.count (canonical-IsSize d t h.0 (IsCanonical-alike d (row_term m c.args.s) t h.0 e a))

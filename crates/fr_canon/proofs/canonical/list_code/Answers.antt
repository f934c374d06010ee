use Rattle.std.proofs.Common.{arith, ℕ, ◌≡◌, subst, length}
use Rattle.fr_model.specs.Automata.{next_state}
use Rattle.fr_machine.specs.Rows.{state_of, states_of}
use Rattle.fr_canon.specs.Listings.{row_output, IsListed}
use Rattle.fr_canon.proofs.ListingLaws.{IsWritten-start, IsWritten-more, IsCode-listed}
use Rattle.fr_canon.proofs.canonical.list_code.Goals as goal

pub loop-done-init : goal.loop-done-init
loop-done-init c =
    let m = c.args.rows.now in
    IsWritten-start c.args.a (length m) (next_state (states_of m)) (row_output (states_of m)) c.args.s c.begin.new.walk.keys c.clear.new.self c.requires.row c.begin.ensures c.clear.ensures

pub loop-done-preserved : goal.loop-done-preserved
loop-done-preserved c =
    let m = c.args.rows.now in
    IsWritten-more c.args.a (length m) (next_state (states_of m)) (row_output (states_of m)) c.args.s c.loop-done.walk c.list_row-row.new.walk c.loop-done.done c.key-key.result (state_of c.list_row-row.result) c.loop-done.out c.push_state.new.out c.loop-done.invariant
    (omega (arith, c.loop-done-test.true, c.count.ensures.value)) c.key-key.ensures.value c.list_row-row.ensures.listed c.push_state.ensures

pub returns : goal.returns
returns c =
    let m = c.args.rows.now in
    let d = c.args.a in
    let h = c.loop-done.invariant in
    let all : c.loop-done.done ≡ length c.loop-done.walk.keys = omega (arith, c.loop-done-test.false, c.count.ensures.value, h.listed.done) in
    let P : ℕ → Type 0 = λ j. IsListed d (length m) (next_state (states_of m)) (row_output (states_of m)) c.args.s c.loop-done.walk.keys j h.states in
    IsCode-listed d m c.requires.machine c.requires.unlike c.args.s c.requires.row c.loop-done.walk.keys h.states (subst P all h.listed) c.count.ensures.valid c.loop-done.out h.written

use Rattle.std.proofs.Common.{arith, ◌≤◌, length}
use Rattle.fr_model.specs.Automata.{next_state}
use Rattle.fr_machine.specs.Rows.{states_of}
use Rattle.fr_canon.specs.Listings.{row_output}
use Rattle.fr_canon.proofs.RowListLaws.{AreRowsListed-start, AreRowsListed-more, IsCanonical-rows, IsMinimal-rows}
use Rattle.fr_canon.proofs.canonical.list_rows.Goals as goal

pub loop-done-init : goal.loop-done-init
loop-done-init c =
    let m = c.args.rows.now in
    AreRowsListed-start c.args.a (length m) (next_state (states_of m)) (row_output (states_of m)) c.args.s c.begin.new.walk.keys c.in_ok-found.found.items c.requires.row c.begin.ensures c.in_ok-found.ensures.items

pub loop-done-preserved : goal.loop-done-preserved
loop-done-preserved c =
    let m = c.args.rows.now in
    AreRowsListed-more c.args.a (length m) (next_state (states_of m)) (row_output (states_of m)) c.args.s c.loop-done.walk c.list_row.new.walk c.loop-done.done c.key-key.result c.loop-done.found.items c.push.new.self.items c.list_row.result c.loop-done.invariant
    (omega (arith, c.loop-done-test.true, c.count.ensures.value)) c.key-key.ensures.value c.list_row.ensures c.in_ok-push.ensures.items

pub returns-clause-canonical : goal.returns-clause-canonical
returns-clause-canonical c =
    let all : length c.loop-done.walk.keys ≤ c.loop-done.done = omega (arith, c.loop-done-test.false, c.count.ensures.value) in
    let few : c.loop-done.done ≤ 1024 = omega (arith, c.loop-done.invariant.listed.done, c.count.ensures.value, c.count.ensures.most) in
    IsCanonical-rows c.args.a c.args.rows.now c.requires.machine c.requires.unlike c.args.s c.requires.row c.loop-done.walk.keys c.loop-done.done c.loop-done.found.items c.loop-done.invariant c.count.ensures.valid all few

pub returns-clause-minimal : goal.returns-clause-minimal
returns-clause-minimal c =
    let all : length c.loop-done.walk.keys ≤ c.loop-done.done = omega (arith, c.loop-done-test.false, c.count.ensures.value) in
    let few : c.loop-done.done ≤ 1024 = omega (arith, c.loop-done.invariant.listed.done, c.count.ensures.value, c.count.ensures.most) in
    IsMinimal-rows c.args.a c.args.rows.now c.requires.machine c.requires.unlike c.args.s c.requires.row c.loop-done.walk.keys c.loop-done.done c.loop-done.found.items c.loop-done.invariant c.count.ensures.valid all few

use Rattle.std.proofs.Common.{arith, ◌≡◌, ◌+◌, ◌∙◌, ap, get_or}
use Rattle.std.proofs.lemmas.List.{get_or_default}
use Rattle.fr_model.specs.Automata.{next_state}
use Rattle.fr_machine.specs.Machine.{MachineView}
use Rattle.fr_machine.specs.Rows.{states_of}
use Rattle.fr_growth.proofs.EdgeLaws.{edges_added}
use Rattle.fr_growth.proofs.edges.Edges.add_row.Goals as goal

pub loop-x-preserved : goal.loop-x-preserved
loop-x-preserved c =
    let rows = c.args.m.now.rows in
    let order = c.args.distances.now.rows.items in
    let row : c.index-row.result.now ≡ get_or order c.args.place 0 = c.index-row.ensures ∙ get_or_default order c.args.place c.index-row.result.now 0 c.requires.place in
    let to : c.next.result ≡ next_state (states_of rows) (get_or order c.args.place 0) (c.loop-x.x + 1) = (rw c.machine-machine.ensures.value at c.next.ensures.value) ∙ ap (λ z. next_state (states_of rows) z (c.loop-x.x + 1)) row in
    edges_added c.args.m.now.alphabet rows c.args.from order c.args.distances.now.values.items c.requires.distances c.loop-x.self.list.items c.loop-x.self.latest.items c.args.place c.loop-x.x c.next.result c.loop-x.invariant c.requires.place
    (omega arith, omega (arith, ap (λ (v : MachineView). v.alphabet) c.machine-machine.ensures.value, c.loop-x-test.true)) to (rw c.machine-machine.ensures.value at c.next.ensures.row) c.index-row.result.now row c.add.new.self.list.items c.add.new.self.latest.items c.in_ok-add.ensures

use Rattle.std.proofs.Common.{arith, length, ◌≡◌, ◌+◌, get_or, ap, sym, ◌∙◌}
use Rattle.std.proofs.lemmas.List.{get_or_default}
use Rattle.fr_model.specs.Automata.{next_state}
use Rattle.fr_machine.specs.Machine.{MachineView}
use Rattle.fr_machine.specs.Rows.{states_of}
use Rattle.fr_growth.proofs.BitLaws.{rank-le}
use Rattle.fr_growth.proofs.DistanceLaws.{search_met}
use Rattle.fr_growth.proofs.distances.Distances.go_on.Goals as goal

pub overflow_add-distance : goal.overflow_add-distance
overflow_add-distance c =
    let m = c.machine-machine.ensures.valid in
    let h = c.requires.search in
    let row : c.index-row.result.now ≡ get_or c.args.self.now.rows.items c.args.place 0 = c.index-row.ensures ∙ get_or_default c.args.self.now.rows.items c.args.place c.index-row.result.now 0 c.requires.place in
    let below = h.below c.args.place c.requires.place in
    let value : c.index.result.now ≡ get_or c.args.self.now.values.items c.index-row.result.now 0 = c.index.ensures ∙ get_or_default c.args.self.now.values.items c.index-row.result.now c.index.result.now 0 (omega (arith, row, below, h.size)) in
    omega (arith, value, ap (λ z. get_or c.args.self.now.values.items z 0) row, h.depth c.args.place c.requires.place, h.few, rank-le c.args.self.now.seen (length c.args.m.now.rows), m.small, c.requires.place)

pub loop-x-init : goal.loop-x-init
loop-x-init c =
    let h = c.requires.search in
    let row : c.index-row.result.now ≡ get_or c.args.self.now.rows.items c.args.place 0 = c.index-row.ensures ∙ get_or_default c.args.self.now.rows.items c.args.place c.index-row.result.now 0 c.requires.place in
    let below = h.below c.args.place c.requires.place in
    let value : c.index.result.now ≡ get_or c.args.self.now.values.items c.index-row.result.now 0 = c.index.ensures ∙ get_or_default c.args.self.now.values.items c.index-row.result.now c.index.result.now 0 (omega (arith, row, below, h.size)) in
    record {
      search = h;
      place = c.requires.place;
      row = row;
      distance = omega (arith, value, ap (λ z. get_or c.args.self.now.values.items z 0) row);
    }

pub loop-x-preserved : goal.loop-x-preserved
loop-x-preserved c =
    let m = c.machine-machine.ensures.valid in
    let i = c.loop-x.invariant in
    let rows = c.args.m.now.rows in
    let to : c.next.result ≡ next_state (states_of rows) (get_or c.loop-x.self.rows.items c.args.place 0) (c.loop-x.x + 1) = (rw c.machine-machine.ensures.value at c.next.ensures.value) ∙ ap (λ z. next_state (states_of rows) z (c.loop-x.x + 1)) i.row in
    let q = search_met c.args.m.now.alphabet rows m c.args.from c.loop-x.self.rows.items c.loop-x.self.values.items c.loop-x.self.seen c.args.place c.loop-x.x c.next.result (c.index.result.now + 1) i.search i.place
    (omega arith, omega (arith, ap (λ (v : MachineView). v.alphabet) c.machine-machine.ensures.value, c.loop-x-test.true)) to i.distance c.meet.new.self.rows.items c.meet.new.self.values.items c.meet.new.self.seen c.in_ok-meet.ensures in
    record {
      search = q.0;
      place = q.1;
      row = i.row ∙ sym q.2;
      distance = omega (arith, i.distance, q.3);
    }

use Rattle.std.proofs.Common.{ℕ, List, ◌<◌, arith, ◌≡◌, ◌+◌, ◌-◌, ◌∙◌, inl, inr, get_or, refl, length}
use Rattle.std.proofs.lemmas.List.{get_or_default}
use Rattle.fr_growth.specs.declared.edges.Edge.{Edge}
use Rattle.fr_growth.specs.Edges.{edge_at}
use Rattle.fr_growth.proofs.PartLaws.{here_first, here_edge, edge_row, here_next, enter_start, enter_end, enter_far, enter_once, enter_again}
use Rattle.fr_growth.proofs.layers.enter_before.Goals as goal

edge_value : (values : List ℕ) (v : ℕ) (k l : Edge) → k ≡ l → v ≡ get_or values k.row v → l.row < length values → v ≡ get_or values l.row 0
edge_value values v k l e h b = let h' = rw e at h in h' ∙ get_or_default values l.row v 0 b

pub loop-number-init : goal.loop-number-init
loop-number-init c =
    let m = c.machine-known.ensures.valid in
    record {
      part = enter_start c.args.m.now.alphabet c.args.m.now.rows c.args.goals.now m c.args.from c.args.distances.now.rows.items c.args.distances.now.values.items c.requires.distances c.args.edges.now.list.items c.args.edges.now.latest.items c.requires.edges c.args.long c.requires.long c.args.rows.now c.requires.rows c.args.place c.requires.place
          c.args.layer.now.set c.args.layer.now.rows.items c.args.layer.now.letters.items c.args.bound.now c.latest-number.result c.latest-number.ensures c.requires.layer;
      here = rw c.latest-number.ensures (here_first c.args.m.now.alphabet c.args.m.now.rows c.args.goals.now m c.args.from c.args.distances.now.rows.items c.args.distances.now.values.items c.requires.distances c.args.edges.now.list.items c.args.edges.now.latest.items c.requires.edges c.args.long c.requires.long c.args.rows.now c.requires.rows c.args.place c.requires.place);
      lowered = record { most = omega arith; least = c.requires.bound; cause = inl refl };
    }

pub edge-edge-requires-clause-most : goal.edge-edge-requires-clause-most
edge-edge-requires-clause-most c =
    let m = c.machine-known.ensures.valid in
    (here_edge c.args.m.now.alphabet c.args.m.now.rows c.args.goals.now m c.args.from c.args.distances.now.rows.items c.args.distances.now.values.items c.requires.distances c.args.edges.now.list.items c.args.edges.now.latest.items c.requires.edges c.args.long c.requires.long c.args.rows.now c.requires.rows c.args.place c.requires.place c.loop-number.number c.loop-number-test.true c.loop-number.invariant.here).0

pub returns-then-total-bound : goal.returns-then-total-bound
returns-then-total-bound c =
    let m = c.machine-known.ensures.valid in
    let i = c.loop-number.invariant in
    let e = c.edge-edge.ensures in
    let value : c.index.result.now ≡ get_or c.args.distances.now.values.items (edge_at c.args.edges.now.list.items (c.loop-number.number - 1)).row 0 = edge_value c.args.distances.now.values.items c.index.result.now c.edge-edge.result (edge_at c.args.edges.now.list.items (c.loop-number.number - 1)) e c.index.ensures (edge_row c.args.m.now.alphabet c.args.m.now.rows c.args.goals.now m c.args.from c.args.distances.now.rows.items c.args.distances.now.values.items c.requires.distances c.args.edges.now.list.items c.args.edges.now.latest.items c.requires.edges c.args.long c.requires.long c.args.rows.now c.requires.rows c.args.place c.requires.place c.loop-number.number c.loop-number-test.true i.here) in
    record {
      lowered = i.lowered;
      layer = enter_far c.args.m.now.alphabet c.args.m.now.rows c.args.goals.now m c.args.from c.args.distances.now.rows.items c.args.distances.now.values.items c.requires.distances c.args.edges.now.list.items c.args.edges.now.latest.items c.requires.edges c.args.long c.requires.long c.args.rows.now c.requires.rows c.args.place c.requires.place c.loop-number.layer.set c.loop-number.layer.rows.items c.loop-number.layer.letters.items c.loop-number.bound c.loop-number.number c.loop-number-test.true i.here (omega (arith, value, c.if-total-bound.true)) i.part;
    }

pub loop-number-preserved-then-branch : goal.loop-number-preserved-then-branch
loop-number-preserved-then-branch c =
    let m = c.machine-known.ensures.valid in
    let i = c.loop-number.invariant in
    let e = c.edge-edge.ensures in
    let value : c.index.result.now ≡ get_or c.args.distances.now.values.items (edge_at c.args.edges.now.list.items (c.loop-number.number - 1)).row 0 = edge_value c.args.distances.now.values.items c.index.result.now c.edge-edge.result (edge_at c.args.edges.now.list.items (c.loop-number.number - 1)) e c.index.ensures (edge_row c.args.m.now.alphabet c.args.m.now.rows c.args.goals.now m c.args.from c.args.distances.now.rows.items c.args.distances.now.values.items c.requires.distances c.args.edges.now.list.items c.args.edges.now.latest.items c.requires.edges c.args.long c.requires.long c.args.rows.now c.requires.rows c.args.place c.requires.place c.loop-number.number c.loop-number-test.true i.here) in
    let q = enter_again c.args.m.now.alphabet c.args.m.now.rows c.args.goals.now m c.args.from c.args.distances.now.rows.items c.args.distances.now.values.items c.requires.distances c.args.edges.now.list.items c.args.edges.now.latest.items c.requires.edges c.args.long c.requires.long c.args.rows.now c.requires.rows c.args.place c.requires.place c.loop-number.layer.set c.loop-number.layer.rows.items c.loop-number.layer.letters.items c.loop-number.bound c.loop-number.number c.loop-number-test.true i.here i.part (omega (arith, value, c.if-total-bound.false)) c.enter.new.self.set c.enter.new.self.rows.items c.enter.new.self.letters.items c.in_ok-enter.field-0
    (rw e at c.in_ok-enter.ensures) c.if-branch.true (c.index.result.now + c.args.long) (omega (arith, value)) in
    record {
      part = rw e q.0;
      here = rw e (here_next c.args.m.now.alphabet c.args.m.now.rows c.args.goals.now m c.args.from c.args.distances.now.rows.items c.args.distances.now.values.items c.requires.distances c.args.edges.now.list.items c.args.edges.now.latest.items c.requires.edges c.args.long c.requires.long c.args.rows.now c.requires.rows c.args.place c.requires.place c.loop-number.number c.loop-number-test.true i.here);
      lowered = record { most = omega (arith, c.if-total-bound.false, i.lowered.most); least = omega arith; cause = inr q.1 };
    }

pub loop-number-preserved : goal.loop-number-preserved
loop-number-preserved c =
    let m = c.machine-known.ensures.valid in
    let i = c.loop-number.invariant in
    let e = c.edge-edge.ensures in
    let value : c.index.result.now ≡ get_or c.args.distances.now.values.items (edge_at c.args.edges.now.list.items (c.loop-number.number - 1)).row 0 = edge_value c.args.distances.now.values.items c.index.result.now c.edge-edge.result (edge_at c.args.edges.now.list.items (c.loop-number.number - 1)) e c.index.ensures (edge_row c.args.m.now.alphabet c.args.m.now.rows c.args.goals.now m c.args.from c.args.distances.now.rows.items c.args.distances.now.values.items c.requires.distances c.args.edges.now.list.items c.args.edges.now.latest.items c.requires.edges c.args.long c.requires.long c.args.rows.now c.requires.rows c.args.place c.requires.place c.loop-number.number c.loop-number-test.true i.here) in
    record {
      part = rw e (enter_once c.args.m.now.alphabet c.args.m.now.rows c.args.goals.now m c.args.from c.args.distances.now.rows.items c.args.distances.now.values.items c.requires.distances c.args.edges.now.list.items c.args.edges.now.latest.items c.requires.edges c.args.long c.requires.long c.args.rows.now c.requires.rows c.args.place c.requires.place c.loop-number.layer.set c.loop-number.layer.rows.items c.loop-number.layer.letters.items c.loop-number.bound c.loop-number.number c.loop-number-test.true i.here i.part (omega (arith, value, c.if-total-bound.false)) c.enter.new.self.set c.enter.new.self.rows.items c.enter.new.self.letters.items c.in_ok-enter.field-0
          (rw e at c.in_ok-enter.ensures) c.if-branch.false);
      here = rw e (here_next c.args.m.now.alphabet c.args.m.now.rows c.args.goals.now m c.args.from c.args.distances.now.rows.items c.args.distances.now.values.items c.requires.distances c.args.edges.now.list.items c.args.edges.now.latest.items c.requires.edges c.args.long c.requires.long c.args.rows.now c.requires.rows c.args.place c.requires.place c.loop-number.number c.loop-number-test.true i.here);
      lowered = i.lowered;
    }

pub returns-clause-layer : goal.returns-clause-layer
returns-clause-layer c =
    let m = c.machine-known.ensures.valid in
    enter_end c.args.m.now.alphabet c.args.m.now.rows c.args.goals.now m c.args.from c.args.distances.now.rows.items c.args.distances.now.values.items c.requires.distances c.args.edges.now.list.items c.args.edges.now.latest.items c.requires.edges c.args.long c.requires.long c.args.rows.now c.requires.rows c.args.place c.requires.place
    c.loop-number.layer.set c.loop-number.layer.rows.items c.loop-number.layer.letters.items c.loop-number.bound c.loop-number.number (omega (arith, c.loop-number-test.false)) c.loop-number.invariant.part

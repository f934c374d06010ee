use Rattle.std.proofs.Common.{arith, ◌≡◌, ◌+◌, ◌-◌, ◌∙◌, ap, get_or, length}
use Rattle.fr_growth.proofs.DistanceLaws.{nought_at}
use Rattle.fr_growth.proofs.EdgeLaws.{edges_none, edges_next, edges_all}
use Rattle.fr_growth.proofs.edges.find_edges.Goals as goal

pub loop-place-init : goal.loop-place-init
loop-place-init c =
    let long : c.len-place.result ≡ length c.args.distances.now.rows.items = omega (arith, c.len-place.ensures, c.args.distances.now.rows.ok.0) in
    record {
      edges = rw (long, c.in_ok-with_capacity.ensures.items) (edges_none c.args.m.now.alphabet c.args.m.now.rows c.args.distances.now.rows.items c.args.distances.now.values.items c.in_ok-vec.field-0.items (omega (arith, c.in_ok-vec.ensures.len, c.size.ensures))
          (λ u. ap (λ z. get_or z u 0) (c.in_ok-vec.ensures.items_if_clones_equal (λ y e. e)) ∙ nought_at _ u));
      place = omega (arith, long);
    }

pub add_row-requires-clause-edges : goal.add_row-requires-clause-edges
add_row-requires-clause-edges c =
    let at : c.loop-place.place ≡ c.loop-place.place - 1 + 1 = omega (arith, c.loop-place-test.true) in
    edges_next c.args.m.now.alphabet c.args.m.now.rows c.args.distances.now.rows.items c.args.distances.now.values.items c.loop-place.edges.list.items c.loop-place.edges.latest.items (c.loop-place.place - 1) (rw at at c.loop-place.invariant.edges)

pub loop-place-preserved : goal.loop-place-preserved
loop-place-preserved c = record { edges = c.in_ok-add_row.ensures; place = omega (arith, c.loop-place.invariant.place) }

pub returns : goal.returns
returns c = edges_all c.args.m.now.alphabet c.args.m.now.rows c.args.distances.now.rows.items c.args.distances.now.values.items c.loop-place.edges.list.items c.loop-place.edges.latest.items c.loop-place.place (omega (arith, c.loop-place-test.false)) c.loop-place.invariant.edges

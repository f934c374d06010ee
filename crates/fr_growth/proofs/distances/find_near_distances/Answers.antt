use Rattle.std.proofs.Common.{arith, length}
use Rattle.fr_growth.proofs.BitLaws.{rank-le}
use Rattle.fr_growth.proofs.DistanceLaws.{search_next, search_done}
use Rattle.fr_growth.proofs.distances.find_near_distances.Goals as goal

pub loop-place-preserved : goal.loop-place-preserved
loop-place-preserved c =
    let h = c.in_ok-go_on.ensures in
    search_next c.args.m.now.alphabet c.args.m.now.rows c.args.from c.go_on.new.self.rows.items c.go_on.new.self.values.items c.go_on.new.self.seen c.loop-place.place h.place h.search

pub loop-place-smaller : goal.loop-place-smaller
loop-place-smaller c = omega (arith, c.loop-place-test.true, c.len.ensures, c.loop-place.invariant.few, rank-le c.loop-place.distances.seen (length c.args.m.now.rows), c.loop-place.distances.rows.ok.0)

pub returns : goal.returns
returns c =
    let m = c.machine-known.ensures.valid in
    search_done c.args.m.now.alphabet c.args.m.now.rows m c.args.from c.loop-place.distances.rows.items c.loop-place.distances.values.items c.loop-place.distances.seen c.loop-place.place c.loop-place.invariant (omega (arith, c.loop-place-test.false, c.len.ensures, c.loop-place.distances.rows.ok.0))

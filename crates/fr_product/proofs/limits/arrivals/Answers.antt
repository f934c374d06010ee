use Rattle.std.proofs.Common.{◌≡◌, ◌<◌, arith, length, get_or, ap}
use Rattle.fr_product.proofs.PeelLaws.{arrivals_from-le}
use Rattle.fr_product.proofs.limits.arrivals.Goals as goal

pub count_nexts-requires-clause-room : goal.count_nexts-requires-clause-room
count_nexts-requires-clause-room c y l =
    let same : get_or c.deref_mut.result.now y 0 ≡ get_or c.loop-row.arrivals.items y 0 = ap (λ xs. get_or xs y 0) c.deref_mut.ensures.value in
    let inside : y < length c.args.rows.now = omega (arith, ap length c.deref_mut.ensures.value, c.loop-row.invariant.size) in
    let few = arrivals_from-le y c.args.rows.now c.loop-row.row-index (λ i e k. (c.requires.1.valid i e k).width) (omega arith) in
    omega (arith, same, c.loop-row.invariant.counts y inside, few, c.requires.1.most)

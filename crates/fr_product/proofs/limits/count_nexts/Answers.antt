use Rattle.std.proofs.Common.{◌≡◌, ◌<◌, ◌+◌, arith, refl, sym, length, take, get_or, ◌∙◌}
use Rattle.std.proofs.lemmas.List.{get_or-take, length-take, length-take-le, length-set}
use Rattle.std.proofs.lemmas.List.Elements.{All-get_or}
use Rattle.fr_product.proofs.LimitLaws.{times-le}
use Rattle.fr_product.proofs.PeelLaws.{counted_more}
use Rattle.fr_product.proofs.limits.count_nexts.Goals as goal

pub overflow_add-arrivals : goal.overflow_add-arrivals
overflow_add-arrivals c =
    let nexts = take (length c.args.row.now.perm) c.args.row.now.next in
    let n = get_or c.args.row.now.next c.loop-x.x 0 in
    let below : n < length c.args.arrivals.now = All-get_or (λ k. k < length c.args.arrivals.now) c.args.row.now.next c.loop-x.x 0 (omega (arith, c.requires.row.width, c.letters-x-end.ensures.most)) c.requires.row.below in
    omega (arith, c.requires.room n below, c.loop-x.invariant.counts n below, times-le n (take c.loop-x.x nexts), length-take c.loop-x.x nexts, c.letters-x-end.ensures.most)

pub loop-x-preserved : goal.loop-x-preserved
loop-x-preserved c =
    let nexts = take (length c.args.row.now.perm) c.args.row.now.next in
    let n = get_or c.args.row.now.next c.loop-x.x 0 in
    let below : n < length c.args.arrivals.now = All-get_or (λ k. k < length c.args.arrivals.now) c.args.row.now.next c.loop-x.x 0 (omega (arith, c.requires.row.width, c.letters-x-end.ensures.most)) c.requires.row.below in
    let l : c.loop-x.x < length c.args.row.now.perm = omega (arith, c.letters-x-end.ensures.value) in
    let size : length nexts ≡ length c.args.row.now.perm = length-take-le (length c.args.row.now.perm) c.args.row.now.next (omega (arith, c.requires.row.width, c.letters-x-end.ensures.most, c.letters-x-end.ensures.value)) in
    let e : n ≡ get_or nexts c.loop-x.x 0 = sym (get_or-take (length c.args.row.now.perm) c.args.row.now.next c.loop-x.x 0 l) in
    record {
      size = length-set c.loop-x.arrivals n (get_or c.loop-x.arrivals n 0 + 1) ∙ c.loop-x.invariant.size;
      counts = λ y k. counted_more y n c.loop-x.x c.args.arrivals.now c.loop-x.arrivals _ nexts (omega (arith, c.loop-x.invariant.size)) (omega (arith, size)) e refl (c.loop-x.invariant.counts y k);
    }

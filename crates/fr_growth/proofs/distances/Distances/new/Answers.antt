use Rattle.std.proofs.Common.{arith, ◌∙◌, ap, get_or}
use Rattle.fr_growth.proofs.DistanceLaws.{search_none, nought_at}
use Rattle.fr_growth.proofs.distances.Distances.new.Goals as goal

pub returns : goal.returns
returns c =
    let m = c.machine-known.ensures.valid in
    rw (c.in_ok-push.ensures.items, c.in_ok-rows.ensures.items) (search_none c.args.m.now.alphabet c.args.m.now.rows m c.args.from c.in_ok-vec.field-0.items c.put.new.row c.requires (omega (arith, c.in_ok-vec.ensures.len, c.size.ensures))
    (λ u. ap (λ z. get_or z u 0) (c.in_ok-vec.ensures.items_if_clones_equal (λ y e. e)) ∙ nought_at _ u) c.put.ensures)

use Rattle.std.proofs.Common.{ℕ, ◌+◌, ◌-◌, ◌<◌, get_or, set, length, map, take, drop, ap, ◌∙◌, arith}
use Rattle.std.proofs.lemmas.List.{get_or_default, length-append, length-map, length-take, length-drop}
use Rattle.std.proofs.lemmas.List.Edits.{map_over_more}
use Rattle.fr_product.proofs.growing.renumbered.Goals as goal

pub loop-n-preserved : goal.loop-n-preserved
loop-n-preserved c =
    let next = c.args.row.now.next in
    let items = c.loop-n.n-items in
    let i = c.loop-n.n-index in
    let n = get_or items i 0 in
    let f = λ (k : ℕ). k + 1 - c.args.first in
    let inside : i < length next = omega (arith, ap length c.loop-n.invariant, length-append (map f (take i next)) (drop i next), length-map (take i next) f, length-take i next, length-drop i next) in
    ap (set items i) c.saturating_sub.ensures ∙ map_over_more f next items i n inside c.loop-n.invariant (get_or_default items i 0 n (omega arith))

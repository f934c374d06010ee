use Rattle.std.proofs.Common.{arith, refl, ◌≡◌, ◌∙◌, get_or, ap}
use Rattle.std.proofs.lemmas.List.{get_or_default}
use Rattle.fr_growth.proofs.WordLaws.{nearest_of}
use Rattle.fr_growth.proofs.least.nearest.Goals as goal

pub returns-then-goals-row : goal.returns-then-goals-row
returns-then-goals-row c =
    let order = c.args.distances.now.rows.items in
    let values = c.args.distances.now.values.items in
    let i = c.loop-row.row-index in
    let e = c.deref-row-items.ensures.value in
    let below = rw e at c.loop-row-test.true in
    let row : get_or c.deref-row-items.result.now i 0 ≡ get_or order i 0 = ap (λ z. get_or z i 0) e in
    let b = c.requires.distances.below i below in
    let value : c.index.result.now ≡ get_or values (get_or order i 0) 0 = (rw e at c.index.ensures) ∙ get_or_default values (get_or order i 0) c.index.result.now 0 (omega (arith, b, c.requires.distances.size)) in
    nearest_of c.args.m.now.alphabet c.args.m.now.rows c.args.goals.now c.args.from order values c.requires.distances i (get_or order i 0) c.index.result.now below refl (rw e at c.if-goals-row.true) value c.loop-row.invariant

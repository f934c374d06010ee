use Rattle.std.proofs.Common.{arith, refl, ap, ◌≡◌, ◌<◌, ◌∙◌, length, ◌+◌, ℕ, subst, get_or}
use Rattle.std.proofs.lemmas.List.{get_or_default}
use Rattle.fr_growth.proofs.LevelLaws.{LevelsTo, levels_more, levels_all}
use Rattle.fr_growth.proofs.leveling.find_levels.Goals as goal

pub loop-s-preserved : goal.loop-s-preserved
loop-s-preserved c =
    let co = c.args.components.now in
    let i = c.loop-s.s-index in
    let l : i < length co.order.items = omega (arith, ap length c.deref-s-items.ensures.value) in
    let s = get_or co.order.items i 0 in
    let raised = rw c.deref-s-items.ensures.value at c.raise.ensures in
    let index = rw c.deref-s-items.ensures.value at c.index.ensures in
    let number : c.index.result.now ≡ get_or co.numbers.items s 0 = index ∙ get_or_default co.numbers.items s c.index.result.now 0 (omega (arith, c.requires.order.below i l, c.requires.numbers.count)) in
    levels_more c.args.m.now.alphabet c.args.m.now.rows co.numbers.items co.order.items c.args.gains.now c.requires.numbers c.requires.order c.requires.few i c.level_below.result
    (c.level_below.result + get_or c.args.gains.now s 0) c.loop-s.levels.values.items c.loop-s.levels.heads.items c.raise.new.self.values.items c.raise.new.self.heads.items l c.loop-s.invariant
    (rw (c.deref.ensures.value, c.deref-in-loop-s.ensures.value, c.deref-s-items.ensures.value) at c.level_below.ensures) refl (rw number at raised)

pub returns : goal.returns
returns c =
    let co = c.args.components.now in
    let P : ℕ → Type 0 = λ i. LevelsTo c.args.m.now.alphabet c.args.m.now.rows co.numbers.items co.order.items c.args.gains.now c.loop-s.levels.values.items c.loop-s.levels.heads.items i in
    levels_all c.args.m.now.alphabet c.args.m.now.rows co.numbers.items co.order.items c.args.gains.now c.requires.numbers c.requires.order c.requires.few c.loop-s.levels.values.items c.loop-s.levels.heads.items
    (subst P (omega (arith, ap length c.deref-s-items.ensures.value)) c.loop-s.invariant)

use Rattle.std.proofs.Common.{arith}
use Rattle.fr_growth.proofs.FoundLaws.{goals_none, goals_skip, goals_more, goals_all}
use Rattle.fr_growth.proofs.layers.Layer.of_goals.Goals as goal
use Rattle.fr_growth.proofs.layers.Layer.of_goals.Goals.{then-goals-s+in_ok-enter, else-goals-s}

pub loop-s-init : goal.loop-s-init
loop-s-init c = rw c.in_ok-layer.ensures.rows (goals_none c.args.goals.now c.in_ok-layer.layer.set c.in_ok-layer.layer.letters.items c.in_ok-layer.ensures.letters c.in_ok-layer.ensures.set)

pub enter-requires-clause-row : goal.enter-requires-clause-row
enter-requires-clause-row c = omega (arith, c.loop-s-test.true, c.loop-s.invariant.size)

pub loop-s-preserved : goal.loop-s-preserved
loop-s-preserved c = elim c.if-goals-s.branch [
  | then-goals-s+in_ok-enter w ↦ rw w.layer-is (goals_more c.args.goals.now c.loop-s.s c.loop-s.layer.set c.loop-s.layer.rows.items c.loop-s.layer.letters.items w.in_ok-enter.field-0 _ _ _ c.loop-s.invariant c.loop-s-test.true c.requires w.if-goals-s.true w.in_ok-enter.ensures)
  | else-goals-s w ↦ rw w.layer-is (goals_skip c.args.goals.now c.loop-s.s c.loop-s.layer.set c.loop-s.layer.rows.items c.loop-s.layer.letters.items c.loop-s.invariant (omega (arith, c.loop-s-test.true, c.requires)) w.if-goals-s.false)
]

pub returns-clause-goals : goal.returns-clause-goals
returns-clause-goals c = goals_all c.args.goals.now c.loop-s.s c.loop-s.layer.set c.loop-s.layer.rows.items c.loop-s.layer.letters.items c.loop-s.invariant (omega (arith, c.loop-s-test.false))

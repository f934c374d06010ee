use Rattle.fr_growth.proofs.FoundLaws.{AreGoalsBelow}
use Rattle.fr_growth.proofs.layers.Layer.of_goals.Given as goal

abbrev pub invariant-loop-s : goal.invariant-loop-s
invariant-loop-s l = AreGoalsBelow l.goals l.s l.layer.set l.layer.rows.items l.layer.letters.items

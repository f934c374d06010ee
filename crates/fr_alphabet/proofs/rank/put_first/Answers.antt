use Rattle.std.proofs.Common.{arith, ◌∙◌}
use Rattle.fr_alphabet.proofs.InsertionLaws.{raised_more_above, raised_more_below}
use Rattle.fr_alphabet.proofs.rank.put_first.Goals as goal
use Rattle.fr_alphabet.proofs.rank.put_first.Goals.{then-y-x, else-y-x}

pub loop-y-preserved : goal.loop-y-preserved
loop-y-preserved c = elim c.if-y-x.branch [
  | then-y-x w ↦ w.y-items-is ∙ raised_more_above c.args.x _ c.loop-y.y-items c.loop-y.y-index (omega arith) (omega arith) w.if-y-x.true c.loop-y.invariant
  | else-y-x w ↦ w.y-items-is ∙ raised_more_below c.args.x _ c.loop-y.y-items c.loop-y.y-index (omega arith) (omega arith) w.if-y-x.false c.loop-y.invariant
]

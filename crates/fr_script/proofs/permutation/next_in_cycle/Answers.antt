use Rattle.std.proofs.Common.{◌∙◌}
use Rattle.fr_script.proofs.CycleLaws.{goes_past}
use Rattle.fr_script.proofs.permutation.next_in_cycle.Goals as goal

pub loop-i-preserved : goal.loop-i-preserved
loop-i-preserved c = goes_past _ c.args.x c.loop-i.i c.args.cycle.now c.loop-i-test.true c.if-y-x.false ∙ c.loop-i.invariant

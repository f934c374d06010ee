use Rattle.fr_product.specs.Growing.{AreLimitsOf}
use Rattle.fr_product.proofs.tests.new_cycles_reach_old_rows.Given as goal

abbrev pub invariant-loop-nexts : goal.invariant-loop-nexts
invariant-loop-nexts g l = AreLimitsOf l.a l.rows.items l.limits

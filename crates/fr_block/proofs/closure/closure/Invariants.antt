use Rattle.std.proofs.Common.{◌-◌, length}
use Rattle.fr_block.proofs.NameLaws.{IsBuilt}
use Rattle.fr_block.proofs.closure.closure.Given as goal

abbrev pub invariant-loop-alloc : goal.invariant-loop-alloc
invariant-loop-alloc l = IsBuilt l.block.alphabet l.block.system l.first l.count l.words l.rows.items

abbrev pub decreases-loop-alloc : goal.decreases-loop-alloc
decreases-loop-alloc l = 8192 - length l.rows.items

use Rattle.std.proofs.Common.{◌≡◌, ◌++◌, map, take}
use Rattle.fr_product.specs.Spreading.{renumbered}
use Rattle.fr_product.proofs.growing.alone.Given as goal

abbrev pub invariant-loop-row : goal.invariant-loop-row
invariant-loop-row l = l.rows.items ≡ l.initial.rows.items ++ map (renumbered l.first) (take l.row-index l.new)

-- The rows that are reached from a cycle, of a machine that grows by rows behind the others.
use Rattle.std.specs.Prelude.{ℕ, List, length}
use Rattle.std.specs.List.{All}
use Rattle.fr_machine.specs.declared.row.Row.{Row}
use Rattle.fr_machine.specs.Rows.{IsRow}
use Rattle.fr_product.specs.declared.growing.GrowingLimits.{GrowingLimits}
use Rattle.fr_product.specs.Limits.{AreLimitRows}

-- marks for these rows, which lead to one another alone
pub record AreLimitsOf (d : ℕ) (rows : List Row) (g : GrowingLimits) : Type 0 where
  pub valid : All (IsRow d (length rows)) rows
  pub limits : AreLimitRows d rows g.marks.items

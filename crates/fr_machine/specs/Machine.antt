-- What clauses see of a machine. This project's own.
use Rattle.std.specs.Prelude.{ℕ, List}
use Rattle.fr_machine.specs.declared.row.Row.{Row}

-- the number of letters, and the rows
pub record MachineView : Type 0 where
  pub alphabet : ℕ
  pub rows : List Row

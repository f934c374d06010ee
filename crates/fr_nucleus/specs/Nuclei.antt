-- What clauses see of a nucleus. This project's own.
use Rattle.std.specs.Prelude.{ℕ, List}
use Rattle.fr_machine.specs.Machine.{MachineView}

-- the members in order, and the depth
pub record NucleusView : Type 0 where
  pub members : List MachineView
  pub depth : ℕ

-- The machine of several names of a block.
use Rattle.std.specs.Prelude.{ℕ, ◌≡◌, ◌+◌, ◌<◌, List, length}
use Rattle.fr_model.specs.Systems.{System}
use Rattle.fr_model.specs.Terms.{Name, IsAlike}
use Rattle.fr_model.specs.FreeWords.{IsClosurePassed}
use Rattle.fr_machine.specs.declared.row.Row.{Row}
use Rattle.fr_machine.specs.Rows.{row_term}
use Rattle.fr_machine.specs.Machine.{MachineView}
use Rattle.fr_classes.specs.Classes.{AreClasses}
use Rattle.fr_minimal.specs.declared.smallest.MinFault.{MinFault}
use Rattle.fr_minimal.specs.declared.smallest.MinFault.TheVariants.{StatesPassed, NoMemory}
use Rattle.fr_block.specs.declared.elements.NameFault.{NameFault}
use Rattle.fr_block.specs.declared.elements.NameFault.TheVariants.{StatesPassed as Passed, NoMemory as Want}
pub use Rattle.fr_minimal.specs.Smallest.{IsSmallest}
pub use Rattle.fr_model.specs.Systems.{IsSystem}

-- row i acts as the name that stands i places behind the first, and none of these names passes the limits of its section words
pub record StandsForNames (d : ℕ) (s : System) (first count : ℕ) (rows : List Row) : Type 0 where
  pub enough : (i : ℕ) → i < count → i < length rows
  pub alike : (i : ℕ) → i < count → IsAlike (row_term rows i) (Name s (first + i))
  pub within : (i : ℕ) → i < count → ¬ IsClosurePassed d s (first + i)

-- the machine of all names, with the classes of its rows
pub record IsCommon (d : ℕ) (s : System) (m : MachineView) (of : List ℕ) : Type 0 where
  pub alphabet : m.alphabet ≡ d
  pub names : StandsForNames d s 0 (length s) m.rows
  pub classes : AreClasses m.rows of

-- the fault of the smallest machine as a fault of the name
abbrev pub name_fault_of : MinFault → NameFault
name_fault_of StatesPassed = Passed
name_fault_of NoMemory = Want

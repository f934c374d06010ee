-- Why there is no nucleus. The limit of 64 sections is this project's own.
use Rattle.std.specs.Prelude.{ℕ, ◌≡◌, List}
use Rattle.fr_machine.specs.Machine.{MachineView}
use Rattle.fr_nucleus.specs.declared.fault.NucleusFault.{NucleusFault}
use Rattle.fr_nucleus.specs.declared.fault.NucleusFault.TheVariants.{TooManySections, Passes, NoMemory}
use Rattle.fr_nucleus.specs.Elements.{HasMoreSections, HasMoreMembers}

-- too many sections, or no more sections than that and too many members; want of memory says nothing
abbrev pub IsNucleusFault : List MachineView → ℕ → NucleusFault → Type 0
IsNucleusFault gens most TooManySections = HasMoreSections gens 64
IsNucleusFault gens most (Passes n) = (n ≡ most) × (¬ HasMoreSections gens 64) × HasMoreMembers gens most
IsNucleusFault gens most NoMemory = Unit {0}

-- the same of the sections alone
abbrev pub IsSectionFault : List MachineView → NucleusFault → Type 0
IsSectionFault gens TooManySections = HasMoreSections gens 64
IsSectionFault gens (Passes n) = ⊥
IsSectionFault gens NoMemory = Unit {0}

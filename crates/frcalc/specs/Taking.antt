-- How the script of a run is taken, and why there is none.
use Rattle.std.specs.Prelude.{ℕ, ◌≡◌, ◌⊎◌, List, Option, Some, None}
use Rattle.fr_io.specs.declared.source.ReadStop.{ReadStop}
use Rattle.fr_io.specs.declared.source.ReadStop.TheVariants as stop
use Rattle.fr_script.specs.declared.line_reader.ScriptFault.{ScriptFault}
use Rattle.fr_script.specs.declared.line_reader.ScriptFault.TheVariants as fault
use Rattle.fr_script.specs.declared.script.Script.{Script}
use Rattle.fr_script.specs.Scripts.{IsScript}
use Rattle.fr_io.specs.Causes.{Rose}
use Rattle.fr_io.specs.Taken.{TookFew, TookSome, TookTooMany}
use Rattle.frcalc.specs.declared.taking.TakeFault.{TakeFault}
use Rattle.frcalc.specs.declared.taking.TakeFault.TheVariants.{ReadFailed, TooLong, NoMemory}
use Rattle.frcalc.specs.Program.{Comes, HasManyLines, IsUntouched}

abbrev pub of_stop : ReadStop → TakeFault
of_stop stop.Failed = ReadFailed
of_stop stop.TooLong = TooLong
of_stop stop.NoMemory = NoMemory

abbrev pub of_script : ScriptFault → TakeFault
of_script fault.LinesPassed = TooLong
of_script fault.NoMemory = NoMemory

-- the script that some bytes write which come with this seed or from the source
pub record IsTaken (demo : Option ℕ) (old new : Option (List ℕ)) (before now : ℕ) (script : Script) : Type 0 where
  pub bytes : List ℕ
  pub comes : Comes demo old new before now bytes
  pub reads : IsScript bytes script

-- why nothing came from the source, and that with a seed memory ran out without it
abbrev pub IsNotTaken : Option ℕ → Option (List ℕ) → Option (List ℕ) → ℕ → ℕ → TakeFault → Type 0
IsNotTaken None old new before now ReadFailed = TookFew 1048576 old new × Rose before now
IsNotTaken None old new before now TooLong = TookTooMany 1048576 old new ⊎ HasManyLines old new
IsNotTaken None old new before now NoMemory = TookSome old new
IsNotTaken (Some seed) old new before now fault = (fault ≡ NoMemory) × IsUntouched old new before now

-- Items and scripts over an alphabet of d letters, and how large they are. These are the project's own notions.
use Rattle.std.specs.Prelude.{ℕ, ◌+◌, ◌<◌, ◌≤◌, List, [], ◌∷◌, length, Option, Some, None}
use Rattle.fr_syntax.specs.Fits.{FitsRecursions, FitsStatement}
use Rattle.fr_syntax.specs.Sizes.{statement_size}
use Rattle.fr_script.specs.declared.fault.Fault.{Fault}
use Rattle.fr_script.specs.declared.fault.LineFault.{LineFault}
use Rattle.fr_script.specs.declared.fault.LineFault.TheVariants as f
use Rattle.fr_script.specs.declared.item.Body.{Body}
use Rattle.fr_script.specs.declared.item.Body.TheVariants as b
use Rattle.fr_script.specs.declared.item.Item.{Item}
use Rattle.fr_script.specs.declared.item.Block.{Block}
use Rattle.fr_script.specs.declared.line_reader.State.{State}
use Rattle.fr_script.specs.declared.script.Script.{Script}

-- the faults that reading finds
abbrev pub IsOfReading : LineFault → Type 0
IsOfReading f.NameTaken = ⊥
IsOfReading f.UnknownName = ⊥
IsOfReading f.PairsPassed = ⊥
IsOfReading f.StatesPassed = ⊥
IsOfReading f.NucleusPassed = ⊥
IsOfReading f.TooManySections = ⊥
IsOfReading f.RayPassed = ⊥
IsOfReading f.ClosurePassed = ⊥
IsOfReading _ = Unit {0}

-- no fault, or one that reading finds
abbrev pub FitsFault : Option Fault → Type 0
FitsFault None = Unit {0}
FitsFault (Some fault) = IsOfReading fault.kind

-- what an item says that begins with the line `low` and ends by the line `high`: at most 4,096 atoms, operations and
-- recursions, over the alphabet; the recursions of a block stand in rising lines. A refused one has a fault of reading.
abbrev pub FitsBody : ℕ → ℕ → ℕ → Body → Type 0
FitsBody d low high (b.Says statement) = FitsStatement d low high statement × (statement_size statement ≤ 4096)
FitsBody d low high (b.Faulty fault) = IsOfReading fault.kind

-- an item of lines up to the line `high`
abbrev pub FitsItem : ℕ → ℕ → Item → Type 0
FitsItem d high item = (item.line ≤ high) × FitsBody d item.line high item.body

-- each fits, and their lines rise from above `low` to `high`
abbrev pub FitsItems : ℕ → ℕ → ℕ → List Item → Type 0
FitsItems d low high [] = Unit {0}
FitsItems d low high (item ∷ items) = (low < item.line) × FitsItem d high item × FitsItems d item.line high items

-- each item fits the alphabet of the script, their lines rise, and there are at most 4,096
pub record FitsScript (script : Script) : Type 0 where
  pub items : FitsItems script.alphabet 0 4096 script.items
  pub few : length script.items ≤ 4096

-- a block that was begun, up to the line `high`
abbrev pub FitsBlock : ℕ → ℕ → Option Block → Type 0
FitsBlock d high None = Unit {0}
FitsBlock d high (Some block) = FitsRecursions d block.line high block.recursions × (length block.recursions + block.line ≤ high) × FitsFault block.fault

-- what was read of a script
abbrev pub FitsState : Option State → Type 0
FitsState None = Unit {0}
FitsState (Some state) = FitsBlock state.alphabet state.count state.block × (state.count ≤ 4096)

-- the item that a line ended fits the alphabet of the lines so far
abbrev pub GivesFitting : Option State → Option Item → Type 0
GivesFitting (Some state) (Some item) = FitsItem state.alphabet state.count item
GivesFitting _ _ = Unit {0}

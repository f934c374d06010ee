-- The order of the members of a nucleus, by size and then by code. This project's own.
use Rattle.std.specs.Prelude.{ℕ, ◌≡◌, ◌<◌, ◌⊎◌, List, [], length, slice_index_or}
use Rattle.std.specs.List.{All}
use Rattle.fr_model.specs.Separation.{IsLexBefore}
use Rattle.fr_model.specs.Canonical.{IsCanonical, code_of}
use Rattle.fr_machine.specs.Machine.{MachineView}
use Rattle.fr_machine.specs.declared.row.Row.{Row}
use Rattle.fr_machine.specs.Rows.{states_of}
use Rattle.fr_nucleus.specs.Elements.{element_of}

-- the machine at a place
abbrev pub machine_at : List MachineView → ℕ → MachineView
machine_at ms i = slice_index_or ms i (record { alphabet = 0; rows = [] })

-- the rows of each machine are its states in canonical order
abbrev pub AreCanonical : ℕ → List MachineView → Type 0
AreCanonical d ms = All (λ m. IsCanonical d (element_of m) (states_of m.rows)) ms

-- fewer states, or as many and the smaller code, where codes are compared as lists of numbers
abbrev pub IsBefore : List Row → List Row → Type 0
IsBefore ms ns = (length ms < length ns) ⊎ ((length ms ≡ length ns) × IsLexBefore (code_of (states_of ms)) (code_of (states_of ns)))

-- each machine comes before those behind it
abbrev pub AreInOrder : List MachineView → Type 0
AreInOrder ms = (i j : ℕ) → i < j → j < length ms → IsBefore (machine_at ms i).rows (machine_at ms j).rows

-- Machines whose rows are all reached from the first, and pairwise unlike: the minimal automata of automata theory.
use Rattle.std.specs.Prelude.{ℕ, ◌≡◌, ◌<◌, ◌≤◌, List, length}
use Rattle.fr_model.specs.Words.{IsWord}
use Rattle.fr_model.specs.Terms.{IsAlike}
use Rattle.fr_model.specs.Automata.{state_after}
use Rattle.fr_machine.specs.declared.row.Row.{Row}
use Rattle.fr_machine.specs.Rows.{IsMachine, row_term, states_of}

-- each row is the section of the first at some word
abbrev pub AreReached : ℕ → List Row → Type 0
AreReached d rows = (s : ℕ) → s < length rows → (w : List ℕ) × IsWord d w × (state_after (states_of rows) 0 w ≡ s)

-- no two rows act alike
abbrev pub AreUnlike : List Row → Type 0
AreUnlike rows = (s t : ℕ) → s < t → t < length rows → ¬ IsAlike (row_term rows s) (row_term rows t)

-- a machine of at most 1,024 rows that are reached and unlike
pub record IsMinimal (d : ℕ) (rows : List Row) : Type 0 where
  pub machine : IsMachine d rows
  pub small : length rows ≤ 1024
  pub reached : AreReached d rows
  pub unlike : AreUnlike rows

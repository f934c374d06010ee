-- The elements that the rows of a machine stand for.
use Rattle.std.specs.Prelude.{ℕ, ◌≡◌, ◌<◌, ◌≤◌, List, length}
use Rattle.std.specs.List.{Contains}
use Rattle.fr_model.specs.Terms.{Term, One, IsTerm, IsAlike}
use Rattle.fr_machine.specs.Machine.{MachineView}
use Rattle.fr_machine.specs.declared.row.Row.{Row}
use Rattle.fr_machine.specs.Rows.{row_term}
use Rattle.fr_machine.specs.Minimal.{AreUnlike}
use Rattle.fr_nucleus.specs.Elements.{alphabet_of, element_of, elements_of, AreOver, IsSectionOf}
use Rattle.fr_nucleus.specs.Orders.{AreCanonical, AreInOrder, machine_at}

-- t acts like a row
abbrev pub HasRow : List Row → Term → Type 0
HasRow rows t = (s : ℕ) × (s < length rows) × IsAlike t (row_term rows s)

-- at most 64 unlike rows, the identity first
pub record AreFewRows (rows : List Row) : Type 0 where
  pub some : 1 ≤ length rows
  pub few : length rows ≤ 64
  pub unlike : AreUnlike rows
  pub one : IsAlike (row_term rows 0) One

-- these are the identity and the sections of the generators and of their inverses, one of those that act alike
pub record AreSections (gens : List MachineView) (rows : List Row) : Type 0 where
  pub fine : AreFewRows rows
  pub terms : (g : Term) → Contains (elements_of gens) g → IsTerm (alphabet_of gens) g
  pub listed : (t : Term) → IsSectionOf gens t → HasRow rows t
  pub inside : (s : ℕ) → s < length rows → (t : Term) × IsSectionOf gens t × IsAlike (row_term rows s) t

-- the machines stand for the rows, one for each, in canonical numbering and in order
pub record IsListing (d : ℕ) (rows : List Row) (ms : List MachineView) : Type 0 where
  pub count : length ms ≡ length rows
  pub over : AreOver d ms
  pub canonical : AreCanonical d ms
  pub order : AreInOrder ms
  pub whole : (s : ℕ) → s < length rows → (i : ℕ) × (i < length ms) × IsAlike (row_term rows s) (element_of (machine_at ms i))
  pub only : (i : ℕ) → i < length ms → HasRow rows (element_of (machine_at ms i))

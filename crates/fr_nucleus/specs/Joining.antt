-- Machines that are made of the rows of others. This project's own.
use Rattle.std.specs.Prelude.{ℕ, ◌≡◌, ◌<◌, ◌≤◌, ◌+◌, ◌⊎◌, List, length, slice_index}
use Rattle.fr_model.specs.Terms.{Term, Inverse, IsAlike}
use Rattle.fr_machine.specs.declared.row.Row.{Row}
use Rattle.fr_machine.specs.Rows.{row_term}
use Rattle.fr_nucleus.specs.Rows.{HasRow, AreFewRows}

-- a row with other next rows
pub record IsRenumbered (f : ℕ → ℕ) (r q : Row) : Type 0 where
  pub perm : q.perm ≡ r.perm
  pub width : length q.next ≡ 8
  pub nexts : (x : ℕ) → x < length r.perm → slice_index q.next x ≡ f (slice_index r.next x)
  pub zeros : (x : ℕ) → length r.perm ≤ x → x < 8 → slice_index q.next x ≡ 0

-- the rows of one machine, and behind them those of another, act as before
pub record AreJoined (ms ns rows : List Row) : Type 0 where
  pub count : length rows ≡ length ms + length ns
  pub left : (s : ℕ) → s < length ms → IsAlike (row_term rows s) (row_term ms s)
  pub right : (s : ℕ) → s < length ns → IsAlike (row_term rows (length ms + s)) (row_term ns s)

-- the row of a class acts like the rows of the class
pub record AreReduced (rows : List Row) (of : List ℕ) (others : List Row) : Type 0 where
  pub alike : (s : ℕ) → s < length rows → (slice_index of s < length others) × IsAlike (row_term others (slice_index of s)) (row_term rows s)
  pub onto : (c : ℕ) → c < length others → (s : ℕ) × (s < length rows) × (slice_index of s ≡ c)

-- t acts like a row of one of the two
abbrev pub HasRowOfEither : List Row → List Row → Term → Type 0
HasRowOfEither ms ns t = HasRow ms t ⊎ HasRow ns t

-- the rows of both, one of those that act alike
pub record IsUnion (ms ns rows : List Row) : Type 0 where
  pub fine : AreFewRows rows
  pub left : (s : ℕ) → s < length ms → HasRow rows (row_term ms s)
  pub right : (s : ℕ) → s < length ns → HasRow rows (row_term ns s)
  pub only : (s : ℕ) → s < length rows → HasRowOfEither ms ns (row_term rows s)

-- t acts like a row of the first, or like a row of the second or its inverse
pub data IsAmong (ms ns : List Row) (t : Term) : Type 0 where
  old : HasRow ms t → IsAmong ms ns t
  row : HasRow ns t → IsAmong ms ns t
  inverse : (s : ℕ) → s < length ns → IsAlike t (Inverse (row_term ns s)) → IsAmong ms ns t

-- the rows of the first, and those of the second and their inverses, one of those that act alike
pub record HasAll (ms ns rows : List Row) : Type 0 where
  pub fine : AreFewRows rows
  pub left : (s : ℕ) → s < length ms → HasRow rows (row_term ms s)
  pub right : (s : ℕ) → s < length ns → HasRow rows (row_term ns s)
  pub inverses : (s : ℕ) → s < length ns → HasRow rows (Inverse (row_term ns s))
  pub only : (s : ℕ) → s < length rows → IsAmong ms ns (row_term rows s)

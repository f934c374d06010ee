-- The table of the products of rows of two machines. This project's own.
use Rattle.std.specs.Prelude.{ℕ, suc, ◌≡◌, ◌<◌, ◌≤◌, ◌+◌, ◌-◌, ◌*◌, ◌/◌, ◌%◌, List, length, slice_index}
use Rattle.fr_model.specs.Permutations.{image, composite}
use Rattle.fr_machine.specs.declared.row.Row.{Row}
use Rattle.fr_machine.specs.Rows.{row_at}

-- the row of the product of a row l of a machine and a row r of another, which has so many rows
pub record IsProductOfRows (width : ℕ) (l r q : Row) : Type 0 where
  pub perm : q.perm ≡ composite l.perm r.perm
  pub size : length q.next ≡ 8
  pub nexts : (x : ℕ) → x < length l.perm → slice_index q.next x ≡ slice_index l.next x * width + slice_index r.next (image l.perm (suc x) - 1)
  pub zeros : (x : ℕ) → length l.perm ≤ x → x < 8 → slice_index q.next x ≡ 0

-- the first rows of the table are those of their pairs
abbrev pub AreProductRows : List Row → List Row → List Row → Type 0
AreProductRows ms qs rows = (k : ℕ) → k < length rows → IsProductOfRows (length qs) (row_at ms (k / length qs)) (row_at qs (k % length qs)) (row_at rows k)

-- a row for each pair
pub record IsProductTable (ms qs rows : List Row) : Type 0 where
  pub count : length rows ≡ length ms * length qs
  pub each : AreProductRows ms qs rows

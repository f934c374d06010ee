-- Rows of inverses (Nekrashevych, Self-Similar Groups, 1.3).
use Rattle.std.specs.Prelude.{ℕ, suc, ◌≡◌, ◌<◌, ◌≤◌, ◌-◌, List, length, slice_index}
use Rattle.fr_model.specs.Permutations.{preimage, inverse_permutation}
use Rattle.fr_model.specs.Terms.{Inverse, IsAlike}
use Rattle.fr_machine.specs.declared.row.Row.{Row}
use Rattle.fr_machine.specs.Rows.{row_term}

-- each letter leads to where the letter that it comes from led
pub record IsInverseRow (r q : Row) : Type 0 where
  pub perm : q.perm ≡ inverse_permutation r.perm
  pub width : length q.next ≡ 8
  pub nexts : (y : ℕ) → y < length r.perm → slice_index q.next y ≡ slice_index r.next (preimage r.perm (suc y) - 1)
  pub zeros : (y : ℕ) → length r.perm ≤ y → y < 8 → slice_index q.next y ≡ 0

-- each row acts like the inverse of the row at its place
abbrev pub AreInverses : List Row → List Row → Type 0
AreInverses rows others = (s : ℕ) → s < length rows → IsAlike (row_term others s) (Inverse (row_term rows s))

-- Lists of the rows that have a row as a next row. This project's own.
use Rattle.std.specs.Prelude.{ℕ, zero, suc, ◌≡◌, ◌<◌, ◌≤◌, ◌+◌, ◌*◌, ◌⊎◌, List, [], ◌∷◌, length, map, slice_index, slice_index_or}
use Rattle.std.specs.List.{All, Contains}
use Rattle.fr_machine.specs.declared.row.Row.{Row}
use Rattle.fr_classes.specs.declared.predecessors.Link.{Link}
use Rattle.fr_classes.specs.declared.predecessors.Predecessors.{Predecessors}
use Rattle.fr_machine.specs.Rows.{row_at}

-- the link at a place
abbrev pub link_at : List Link → ℕ → Link
link_at links i = slice_index_or links i (record { row = 0; earlier = 0 })

-- the rows of link e, counted from 1, and of the links before it to the same next row, where n links are enough
abbrev pub chain : List Link → ℕ → ℕ → List ℕ
chain links zero e = []
chain links (suc n) zero = []
chain links (suc n) (suc e) = (link_at links e).row ∷ chain links n (link_at links e).earlier

-- for each row the rows of the links to it
abbrev pub lists_of : Predecessors → List (List ℕ)
lists_of b = map (λ e. chain b.links.items (length b.links.items) e) b.latest.items

-- each link comes after the one that it names
pub record AreLinks (b : Predecessors) : Type 0 where
  pub earlier : (e : ℕ) → (link_at b.links.items e).earlier ≤ e
  pub latest : All (λ e. e ≤ length b.links.items) b.latest.items

-- each next row has the row in its list: all next rows of rows below s, and those of row s at the first x letters
pub record IsFilled (rows : List Row) (b : Predecessors) (s x : ℕ) : Type 0 where
  pub links : AreLinks b
  pub few : length b.links.items ≤ 8 * s + x
  pub count : length b.latest.items ≡ length rows
  pub inside : All (λ ps. All (λ p. p < length rows) ps) (lists_of b)
  pub has : (p k : ℕ) → p < length rows → k < length (row_at rows p).perm → (p < s) ⊎ ((p ≡ s) × (k < x)) → Contains (slice_index_or (lists_of b) (slice_index (row_at rows p).next k) []) p

-- for each row the rows that have it as a next row, and maybe others
pub record ArePredecessors (rows : List Row) (b : Predecessors) : Type 0 where
  pub links : AreLinks b
  pub count : length b.latest.items ≡ length rows
  pub inside : All (λ ps. All (λ p. p < length rows) ps) (lists_of b)
  pub has : (p k : ℕ) → p < length rows → k < length (row_at rows p).perm → Contains (slice_index_or (lists_of b) (slice_index (row_at rows p).next k) []) p

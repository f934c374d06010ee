-- Tables that list the rows of each class. They serve speed alone, so no more than ranges and sizes is said of them. This project's own.
use Rattle.std.specs.Prelude.{ℕ, ◌≡◌, ◌<◌, ◌≤◌, ◌==◌, List, length, slice_index}
use Rattle.std.specs.List.{All, count_by}
use Rattle.fr_classes.specs.declared.members.Members.{Members}

-- how many rows have the class c
abbrev pub rows_in : ℕ → List ℕ → ℕ
rows_in c of = count_by (λ x. x == c) of

-- entries are rows or classes, which are no more than the rows, and the rows of each class are counted
pub record IsMembers (m : Members) : Type 0 where
  pub few : length m.of.items ≤ 65536
  pub size_count : length m.size.items ≡ length m.of.items
  pub next_count : length m.next.items ≡ length m.of.items
  pub before_count : length m.before.items ≡ length m.of.items
  pub eldest_count : length m.eldest.items ≡ length m.of.items
  pub classes : All (λ c. c < length m.of.items) m.of.items
  pub nexts : All (λ s. s < length m.of.items) m.next.items
  pub befores : All (λ s. s < length m.of.items) m.before.items
  pub eldests : All (λ s. s < length m.of.items) m.eldest.items
  pub sizes : (c : ℕ) → c < length m.of.items → slice_index m.size.items c ≡ rows_in c m.of.items

-- rings have changed, and no class
pub record IsLinked (m m' : Members) : Type 0 where
  pub of : m'.of.items ≡ m.of.items
  pub size : m'.size.items ≡ m.size.items
  pub members : IsMembers m'

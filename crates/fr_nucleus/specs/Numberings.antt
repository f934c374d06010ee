-- Which products are members, and in what order they were found. This project's own.
use Rattle.std.specs.Prelude.{ℕ, ◌≡◌, ◌<◌, ◌≤◌, ◌*◌, ◌⊎◌, List, [], ◌∷◌, ◌++◌, Bool, true, false, length, slice_index}
use Rattle.std.specs.List.{Contains}
use Rattle.fr_model.specs.Terms.{One, IsAlike}
use Rattle.fr_model.specs.Automata.{IsLimitState}
use Rattle.fr_model.specs.Classes.{HasMoreThan}
use Rattle.fr_model.specs.Nuclei.{IsNucleusMember}
use Rattle.fr_machine.specs.declared.row.Row.{Row}
use Rattle.fr_classes.specs.Classes.{AreClasses}
use Rattle.fr_machine.specs.Rows.{IsMachine, row_term, states_of, row_at}
use Rattle.fr_machine.specs.Minimal.{AreUnlike}
use Rattle.fr_machine.specs.Walks.{IsKeys, Extends}
use Rattle.fr_nucleus.specs.Depths.{mark_at}
use Rattle.fr_nucleus.specs.Products.{IsProductTable}
use Rattle.fr_nucleus.specs.Rows.{HasRow}

-- unlike members of the closure under limit sections of products with these rows, the identity first
pub record AreMembers (d : ℕ) (qs ms : List Row) : Type 0 where
  pub one : IsAlike (row_term ms 0) One
  pub unlike : AreUnlike ms
  pub members : (i : ℕ) → i < length ms → IsNucleusMember d (HasRow qs) (row_term ms i)

-- more than n members, no two of which act alike
abbrev pub HasMoreOf : ℕ → List Row → ℕ → Type 0
HasMoreOf d qs n = HasMoreThan (IsNucleusMember d (HasRow qs)) IsAlike n

-- the closure, with its products, and a mark for each that is no member
pub record IsClosure (d : ℕ) (qs ms products : List Row) (outside : List Bool) : Type 0 where
  pub sections : IsMachine d qs
  pub machine : IsMachine d ms
  pub members : AreMembers d qs ms
  pub table : IsProductTable ms qs products
  pub limits : (r : ℕ) → IsLimitState d (states_of products) r → r < length products → HasRow ms (row_term products r)
  pub count : length outside ≡ length products
  pub inside : (r : ℕ) → r < length products → mark_at outside r ≡ false → HasRow ms (row_term products r)
  pub outer : (r : ℕ) → r < length products → mark_at outside r ≡ true → ¬ HasRow ms (row_term products r)

-- the classes of the first members are numbered, in their order, where the members are every so many rows
pub record AreKnown (of keys : List ℕ) (members width m : ℕ) : Type 0 where
  pub count : length keys ≡ m
  pub known : (i : ℕ) → i < m → slice_index keys i ≡ slice_index of (i * width)

-- the classes of the marked rows among the first ones are numbered, and no others than these and those that were
pub record AreNumbered (of : List ℕ) (marks : List Bool) (old keys : List ℕ) (most s : ℕ) : Type 0 where
  pub extends : Extends old keys
  pub few : length keys ≤ most
  pub has : (r : ℕ) → r < s → mark_at marks r ≡ true → Contains keys (slice_index of r)
  pub only : (i : ℕ) → length old ≤ i → i < length keys → (r : ℕ) × (r < length of) × (mark_at marks r ≡ true) × (slice_index keys i ≡ slice_index of r)

-- so many classes are numbered, and a marked row is of another one
pub record IsFull (of : List ℕ) (marks : List Bool) (old : List ℕ) (most : ℕ) : Type 0 where
  pub keys : List ℕ
  pub valid : IsKeys (length of) keys
  pub numbered : AreNumbered of marks old keys most 0
  pub full : most ≤ length keys
  pub row : ℕ
  pub inside : row < length of
  pub marked : mark_at marks row ≡ true
  pub fresh : ¬ Contains keys (slice_index of row)

-- the classes of the members and of the limit rows are numbered, and no others
pub record IsNumberingOf (d : ℕ) (products : List Row) (members width most : ℕ) (of keys : List ℕ) : Type 0 where
  pub classes : AreClasses products of
  pub keyed : IsKeys (length of) keys
  pub least : members ≤ length keys
  pub known : (i : ℕ) → i < members → slice_index keys i ≡ slice_index of (i * width)
  pub few : length keys ≤ most
  pub has : (r : ℕ) → r < length products → IsLimitState d (states_of products) r → Contains keys (slice_index of r)
  pub only : (i : ℕ) → members ≤ i → i < length keys → (r : ℕ) × (r < length products) × IsLimitState d (states_of products) r × (slice_index keys i ≡ slice_index of r)

-- more unlike rows than the limit, each of them a member or a limit row
pub record IsOverfull (d : ℕ) (products : List Row) (members width most : ℕ) : Type 0 where
  pub rows : List ℕ
  pub more : most < length rows
  pub apart : (i j : ℕ) → i < j → j < length rows → ¬ IsAlike (row_term products (slice_index rows i)) (row_term products (slice_index rows j))
  pub either : (i : ℕ) → i < length rows → (slice_index rows i < length products) × (((m : ℕ) × (m < members) × (slice_index rows i ≡ m * width)) ⊎ IsLimitState d (states_of products) (slice_index rows i))

-- a mark for each of the first rows whose class has no number
pub record AreOutside (of keys : List ℕ) (marks : List Bool) (s : ℕ) : Type 0 where
  pub count : length marks ≡ s
  pub outer : (r : ℕ) → r < s → mark_at marks r ≡ true → ¬ Contains keys (slice_index of r)
  pub inner : (r : ℕ) → r < s → mark_at marks r ≡ false → Contains keys (slice_index of r)

-- a row whose next rows are the numbers of the classes of those of another
pub record IsMemberRow (of keys : List ℕ) (r q : Row) : Type 0 where
  pub perm : q.perm ≡ r.perm
  pub width : length q.next ≡ 8
  pub nexts : (x : ℕ) → x < length r.perm → (slice_index q.next x < length keys) × (slice_index keys (slice_index q.next x) ≡ slice_index of (slice_index r.next x))
  pub zeros : (x : ℕ) → length r.perm ≤ x → x < 8 → slice_index q.next x ≡ 0

-- a class that has a number
pub record IsNumberedClass (old keys : List ℕ) (class most : ℕ) : Type 0 where
  pub keeps : (keys ≡ old) ⊎ (keys ≡ old ++ class ∷ [])
  pub has : Contains keys class
  pub few : length keys ≤ most

-- a class that would be one too many
pub record IsTooMany (bound : ℕ) (keys : List ℕ) (class most : ℕ) : Type 0 where
  pub valid : IsKeys bound keys
  pub full : most ≤ length keys
  pub fresh : ¬ Contains keys class

-- the members that were known stay, and the others are made of rows of their classes
pub record AreGrown (of keys : List ℕ) (products old rows : List Row) : Type 0 where
  pub least : length old ≤ length rows
  pub within : length rows ≤ length keys
  pub same : (i : ℕ) → i < length old → row_at rows i ≡ row_at old i
  pub new : (i : ℕ) → length old ≤ i → i < length rows → (r : ℕ) × (r < length products) × (slice_index of r ≡ slice_index keys i) × IsMemberRow of keys (row_at products r) (row_at rows i)

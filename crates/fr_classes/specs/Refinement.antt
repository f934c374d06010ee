-- How a partition of rows into classes is refined. Moore's refinement splits a class by the classes of the next rows, and
-- after Hopcroft the larger part keeps its number. That only changed rows are looked at again is this project's own.
use Rattle.std.specs.Prelude.{ℕ, ◌≡◌, ◌≢◌, ◌<◌, ◌≤◌, ◌+◌, ◌⊎◌, ◌==◌, Bool, true, false, if◌then◌else◌, List, [], ◌∷◌, ◌++◌, length, map, take, slice_index, slice_index_or, slice_set, Some}
use Rattle.std.specs.List.{All, Contains}
use Rattle.fr_model.specs.Terms.{IsAlike}
use Rattle.fr_machine.specs.declared.row.Row.{Row}
use Rattle.fr_classes.specs.declared.partition.Partition.{Partition}
use Rattle.fr_classes.specs.declared.signature.Signed.{Signed}
use Rattle.fr_classes.specs.declared.key_table.KeyTable.{KeyTable}
use Rattle.fr_classes.specs.KeyTables.{number_in, IsKeyTable}
use Rattle.fr_machine.specs.Rows.{row_term, row_at}
use Rattle.fr_alphabet.specs.Padded.{padded}

-- what a row puts out, and the classes of its next rows, each in eight places
abbrev pub signature_of : List ℕ → Row → List ℕ
signature_of of r = padded r.perm ++ padded (map (λ n. slice_index of n) (take (length r.perm) r.next))

-- the signature of row s
abbrev pub signature_at : List Row → List ℕ → ℕ → List ℕ
signature_at rows of s = signature_of of (row_at rows s)

-- how many rows of a class are clean
abbrev pub clean_count : ℕ → List ℕ → List Bool → ℕ
clean_count c [] bs = 0
clean_count c (x ∷ xs) [] = 0
clean_count c (x ∷ xs) (b ∷ bs) = (if b then 0 else (if x == c then 1 else 0)) + clean_count c xs bs

-- whether row s is dirty
abbrev pub flag_at : Partition → ℕ → Bool
flag_at p s = slice_index_or p.dirty.items s true

-- the class of row s
abbrev pub class_in : Partition → ℕ → ℕ
class_in p s = slice_index p.of.items s

-- the signature that is known of class c
abbrev pub known_at : Partition → ℕ → List ℕ
known_at p c = slice_index_or p.known.items c []

-- how many clean rows class c is said to have
abbrev pub clean_at : Partition → ℕ → ℕ
clean_at p c = slice_index p.clean.items c

-- how many more rows were for the signature of class c than against it
abbrev pub lead_at : Partition → ℕ → ℕ
lead_at p c = slice_index p.leads.items c

-- each class number is in range, and the clean rows of each class are counted
pub record IsTallied (p : Partition) : Type 0 where
  pub flags : length p.dirty.items ≡ length p.of.items
  pub as_many : length p.clean.items ≡ length p.known.items
  pub below : All (λ c. c < length p.known.items) p.of.items
  pub counts : (c : ℕ) → c < length p.known.items → clean_at p c ≡ clean_count c p.of.items p.dirty.items
  pub few : length p.of.items ≤ 65536

-- each dirty row is in the list
pub record IsQueued (p : Partition) (todo : List ℕ) : Type 0 where
  pub inside : All (λ s. s < length p.of.items) todo
  pub queued : (s : ℕ) → s < length p.of.items → flag_at p s ≡ true → Contains todo s

-- each class has a row
abbrev pub IsUsed : Partition → Type 0
IsUsed p = (c : ℕ) → c < length p.known.items → Contains p.of.items c

-- rows that act alike are of one class, and clean rows have the signature that is known of their class
pub record IsRefining (rows : List Row) (p : Partition) : Type 0 where
  pub tallied : IsTallied p
  pub count : length p.of.items ≡ length rows
  pub used : IsUsed p
  pub alike : (s t : ℕ) → s < length rows → t < length rows → IsAlike (row_term rows s) (row_term rows t) → class_in p s ≡ class_in p t
  pub settled : (s : ℕ) → s < length rows → flag_at p s ≡ false → signature_at rows p.of.items s ≡ known_at p (class_in p s)

-- rows with their signatures
abbrev pub signed_rows : List Row → List ℕ → List ℕ → List Signed
signed_rows rows of todo = map (λ s. record { class = slice_index of s; signature = signature_at rows of s; row = s }) todo

-- the item at a place
abbrev pub work_at : List Signed → ℕ → Signed
work_at work k = slice_index_or work k (record { class = 0; signature = []; row = 0 })

-- one of the first n items has this class and signature
abbrev pub IsOfWork : List Signed → ℕ → ℕ → List ℕ → Type 0
IsOfWork work n c q = (k : ℕ) × (k < n) × ((work_at work k).class ≡ c) × ((work_at work k).signature ≡ q)

-- a row with its class and signature was counted for or against the signature of its class, if that has no clean row
pub record IsVoted (p p' : Partition) (c : ℕ) (q : List ℕ) : Type 0 where
  pub of : p'.of.items ≡ p.of.items
  pub clean : p'.clean.items ≡ p.clean.items
  pub dirty : p'.dirty.items ≡ p.dirty.items
  pub todo : p'.todo.items ≡ p.todo.items
  pub as_many : length p'.leads.items ≡ length p.leads.items
  pub size : length p'.known.items ≡ length p.known.items
  pub others : (j : ℕ) → (j ≢ c) ⊎ (0 < clean_at p c) → (known_at p' j ≡ known_at p j) × (lead_at p' j ≡ lead_at p j)
  pub own : (known_at p' c ≡ q) ⊎ ((known_at p' c ≡ known_at p c) × ((0 < lead_at p c) ⊎ (0 < clean_at p c)))

-- each class of the rows that has no clean one has the signature of one of them, and no other class has another one than before
pub record IsElected (p p' : Partition) (work : List Signed) : Type 0 where
  pub of : p'.of.items ≡ p.of.items
  pub clean : p'.clean.items ≡ p.clean.items
  pub dirty : p'.dirty.items ≡ p.dirty.items
  pub todo : p'.todo.items ≡ p.todo.items
  pub size : length p'.known.items ≡ length p.known.items
  pub kept : (c : ℕ) → 0 < clean_at p c → known_at p' c ≡ known_at p c
  pub elected : (k : ℕ) → k < length work → (0 < clean_at p (work_at work k).class) ⊎ IsOfWork work (length work) (work_at work k).class (known_at p' (work_at work k).class)

-- the numbers that are given to keys are class numbers
pub record IsSeen (p : Partition) (seen : KeyTable) : Type 0 where
  pub table : IsKeyTable seen
  pub below : (c : ℕ) (q : List ℕ) (m : ℕ) → number_in seen (c ∷ q) ≡ Some m → m < length p.known.items

-- m is the class to which a row of class c with signature q goes
pub record IsTarget (p p' : Partition) (seen seen' : KeyTable) (c : ℕ) (q : List ℕ) (m : ℕ) : Type 0 where
  pub of : p'.of.items ≡ p.of.items
  pub dirty : p'.dirty.items ≡ p.dirty.items
  pub todo : p'.todo.items ≡ p.todo.items
  pub table : IsKeyTable seen'
  pub as_many : length p'.clean.items ≡ length p'.known.items
  pub longer : (length p'.known.items ≡ length p.known.items) ⊎ ((m ≡ length p.known.items) × (length p'.known.items ≡ length p.known.items + 1))
  pub inside : (number_in seen (c ∷ q) ≡ Some m) ⊎ (m < length p'.known.items)
  pub here : (number_in seen (c ∷ q) ≡ Some m) ⊎ (known_at p' m ≡ q)
  pub kept : (j : ℕ) → j < length p.known.items → known_at p' j ≡ known_at p j
  pub tally : (j : ℕ) → clean_at p' j ≡ clean_at p j
  pub named : (m ≡ c) ⊎ ((number_in seen' (c ∷ q) ≡ Some m) × (known_at p c ≢ q))
  pub finds : (key : List ℕ) (x : ℕ) → number_in seen' key ≡ Some x → (number_in seen key ≡ Some x) ⊎ ((key ≡ c ∷ q) × (x ≡ m) × (m ≡ length p.known.items) × (m < length p'.known.items) × (known_at p' m ≡ q) × (known_at p c ≢ q))
  pub keeps : (key : List ℕ) (x : ℕ) → number_in seen key ≡ Some x → number_in seen' key ≡ Some x

-- row s with signature q goes to its class if it is dirty, and the flag tells whether that is another one than before
pub data IsPlaced (p p' : Partition) (seen seen' : KeyTable) (s : ℕ) (q : List ℕ) (moves : Bool) : Type 0 where
  idle : flag_at p s ≡ false → p' ≡ p → seen' ≡ seen → moves ≡ false → IsPlaced p p' seen seen' s q moves
  goes : (t : Partition) (m : ℕ) → flag_at p s ≡ true → IsTarget p t seen seen' (class_in p s) q m
      → p'.of.items ≡ slice_set t.of.items s m → p'.dirty.items ≡ slice_set t.dirty.items s false → p'.clean.items ≡ slice_set t.clean.items m (slice_index t.clean.items m + 1) → p'.known.items ≡ t.known.items → p'.todo.items ≡ t.todo.items
      → (moves ≡ false → m ≡ class_in p s) → (moves ≡ true → m ≢ class_in p s) → IsPlaced p p' seen seen' s q moves

-- the rows have their new classes, by the signatures that they had before
pub record IsSettled (rows : List Row) (old : List ℕ) (classes : ℕ) (p : Partition) (moved : List ℕ) : Type 0 where
  pub tallied : IsTallied p
  pub count : length p.of.items ≡ length rows
  pub used : IsUsed p
  pub least : classes ≤ length p.known.items
  pub clean : (s : ℕ) → s < length rows → flag_at p s ≡ false
  pub settled : (s : ℕ) → s < length rows → signature_at rows old s ≡ known_at p (class_in p s)
  pub same : (s t : ℕ) → s < length rows → t < length rows → slice_index old s ≡ slice_index old t → signature_at rows old s ≡ signature_at rows old t → class_in p s ≡ class_in p t
  pub changed : (s : ℕ) → s < length rows → (class_in p s ≡ slice_index old s) ⊎ Contains moved s
  pub grows : (moved ≡ []) ⊎ (classes < length p.known.items)
  pub inside : All (λ s. s < length rows) moved
  pub todo : p.todo.items ≡ []

-- maybe more rows are dirty
pub record IsWider (p p' : Partition) : Type 0 where
  pub of : p'.of.items ≡ p.of.items
  pub known : p'.known.items ≡ p.known.items
  pub tallied : IsTallied p'
  pub queued : IsQueued p' p'.todo.items
  pub keeps : (s : ℕ) → flag_at p s ≡ true → flag_at p' s ≡ true
  pub longer : length p.todo.items ≤ length p'.todo.items

-- row s is dirty too
pub record IsMarked (p p' : Partition) (s : ℕ) : Type 0 where
  pub of : p'.of.items ≡ p.of.items
  pub known : p'.known.items ≡ p.known.items
  pub dirty : p'.dirty.items ≡ slice_set p.dirty.items s true
  pub tallied : IsTallied p'
  pub queued : IsQueued p' p'.todo.items
  pub longer : length p.todo.items ≤ length p'.todo.items

-- all these rows are dirty too
pub record IsSpread (p p' : Partition) (rows : List ℕ) : Type 0 where
  pub of : p'.of.items ≡ p.of.items
  pub known : p'.known.items ≡ p.known.items
  pub tallied : IsTallied p'
  pub queued : IsQueued p' p'.todo.items
  pub keeps : (s : ℕ) → flag_at p s ≡ true → flag_at p' s ≡ true
  pub marked : All (λ s. flag_at p' s ≡ true) rows
  pub none : rows ≡ [] → p'.todo.items ≡ p.todo.items

-- no class is lost, and one is new or no row is dirty
abbrev pub Progress : Partition → Partition → Type 0
Progress p p' = (length p.known.items ≤ length p'.known.items) × ((p'.todo.items ≡ []) ⊎ (length p.known.items < length p'.known.items))

-- the rows before these are dirty too
pub record IsSpreadOver (p p' : Partition) (before : List (List ℕ)) (moved : List ℕ) : Type 0 where
  pub of : p'.of.items ≡ p.of.items
  pub known : p'.known.items ≡ p.known.items
  pub tallied : IsTallied p'
  pub queued : IsQueued p' p'.todo.items
  pub marked : (k : ℕ) → k < length moved → All (λ s. flag_at p' s ≡ true) (slice_index_or before (slice_index moved k) [])
  pub none : moved ≡ [] → p'.todo.items ≡ p.todo.items

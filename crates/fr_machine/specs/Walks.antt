-- Keys that are numbered in the order in which they are met, and machines that are built of them. This project's own.
use Rattle.std.specs.Prelude.{ℕ, suc, ◌≡◌, ◌<◌, ◌≤◌, ◌⊎◌, List, [], ◌∷◌, ◌++◌, length, slice_index}
use Rattle.std.specs.List.{Contains}
use Rattle.fr_model.specs.Words.{IsLetter, IsWord}
use Rattle.fr_machine.specs.declared.row.Row.{Row}
use Rattle.fr_machine.specs.Rows.{row_at}

-- what clauses see: keys are below the bound, and these were met
pub record WalkView : Type 0 where
  pub bound : ℕ
  pub keys : List ℕ

-- at each key 0, or its number and one more
pub record IsIndexed (index keys : List ℕ) : Type 0 where
  pub few : length keys ≤ 65536
  pub at : (i : ℕ) → i < length keys → (slice_index keys i < length index) × (slice_index index (slice_index keys i) ≡ suc i)
  pub back : (k : ℕ) → k < length index → (slice_index index k ≡ 0) ⊎ ((i : ℕ) × (i < length keys) × (slice_index index k ≡ suc i) × (slice_index keys i ≡ k))

-- keys below a bound, no two equal
pub record IsKeys (bound : ℕ) (keys : List ℕ) : Type 0 where
  pub few : length keys ≤ 65536
  pub below : (i : ℕ) → i < length keys → slice_index keys i < bound
  pub distinct : (i j : ℕ) → i < length keys → j < length keys → slice_index keys i ≡ slice_index keys j → i ≡ j

-- n is the number of the key, which has it from now on if it had none
pub record IsNumbered (w w' : WalkView) (key limit n : ℕ) : Type 0 where
  pub bound : w'.bound ≡ w.bound
  pub below : n < length w'.keys
  pub is : slice_index w'.keys n ≡ key
  pub keeps : (w'.keys ≡ w.keys) ⊎ (w'.keys ≡ w.keys ++ key ∷ [])
  pub most : length w'.keys ≤ limit

-- the key would be one too many
pub record IsPassed (w w' : WalkView) (key limit : ℕ) : Type 0 where
  pub same : w' ≡ w
  pub full : limit ≤ length w.keys
  pub fresh : ¬ Contains w.keys key

-- the key behind a word
abbrev pub walk_after : (ℕ → ℕ → ℕ) → ℕ → List ℕ → ℕ
walk_after step k [] = k
walk_after step k (x ∷ w) = walk_after step (step k x) w

-- a row for a key: what it puts out, and the numbers of the keys behind it
pub record IsRowOf (d : ℕ) (step : ℕ → ℕ → ℕ) (output : ℕ → List ℕ) (keys : List ℕ) (key : ℕ) (r : Row) : Type 0 where
  pub perm : r.perm ≡ output key
  pub width : length r.next ≡ 8
  pub nexts : (x : ℕ) → x < d → (slice_index r.next x < length keys) × (slice_index keys (slice_index r.next x) ≡ step key (suc x))
  pub zeros : (x : ℕ) → d ≤ x → x < 8 → slice_index r.next x ≡ 0

-- a walk from a key on, with rows for the first of its keys
pub record IsBuilt (d bound : ℕ) (step : ℕ → ℕ → ℕ) (output : ℕ → List ℕ) (start : ℕ) (keys : List ℕ) (rows : List Row) : Type 0 where
  pub some : 0 < length keys
  pub first : slice_index keys 0 ≡ start
  pub done : length rows ≤ length keys
  pub built : (i : ℕ) → i < length rows → IsRowOf d step output keys (slice_index keys i) (row_at rows i)
  pub reached : (i : ℕ) → i < length keys → (w : List ℕ) × IsWord d w × (walk_after step start w ≡ slice_index keys i)

-- keys that were met stay in their places
abbrev pub Extends : List ℕ → List ℕ → Type 0
Extends keys keys' = (length keys ≤ length keys') × ((i : ℕ) → i < length keys → slice_index keys' i ≡ slice_index keys i)

-- each key is reached from the start
abbrev pub Reached : ℕ → (ℕ → ℕ → ℕ) → ℕ → List ℕ → Type 0
Reached d step start keys = (i : ℕ) → i < length keys → (w : List ℕ) × IsWord d w × (walk_after step start w ≡ slice_index keys i)

-- the keys at the first letters behind a key are numbered
pub record IsRowPart (d limit : ℕ) (step : ℕ → ℕ → ℕ) (w w' : WalkView) (key : ℕ) (next : List ℕ) (x : ℕ) : Type 0 where
  pub bound : w'.bound ≡ w.bound
  pub extends : Extends w.keys w'.keys
  pub most : length w'.keys ≤ limit
  pub width : length next ≡ 8
  pub nexts : (y : ℕ) → y < x → (slice_index next y < length w'.keys) × (slice_index w'.keys (slice_index next y) ≡ step key (suc y))
  pub zeros : (y : ℕ) → x ≤ y → y < 8 → slice_index next y ≡ 0
  pub reached : (start : ℕ) (v : List ℕ) → IsWord d v → walk_after step start v ≡ key → Reached d step start w.keys → Reached d step start w'.keys

-- a row for a key, after which more keys may be known
pub record IsRowMade (d limit : ℕ) (step : ℕ → ℕ → ℕ) (output : ℕ → List ℕ) (w w' : WalkView) (key : ℕ) (r : Row) : Type 0 where
  pub bound : w'.bound ≡ w.bound
  pub extends : Extends w.keys w'.keys
  pub most : length w'.keys ≤ limit
  pub row : IsRowOf d step output w'.keys key r
  pub reached : (start : ℕ) (v : List ℕ) → IsWord d v → walk_after step start v ≡ key → Reached d step start w.keys → Reached d step start w'.keys

-- a letter leads behind the key to one that would be one too many
pub record IsRowPassed (d limit bound : ℕ) (step : ℕ → ℕ → ℕ) (keys : List ℕ) (key : ℕ) : Type 0 where
  pub met : List ℕ
  pub valid : IsKeys bound met
  pub full : limit ≤ length met
  pub letter : ℕ
  pub is_letter : IsLetter d letter
  pub below : step key letter < bound
  pub fresh : ¬ Contains met (step key letter)
  pub reached : (start : ℕ) (v : List ℕ) → IsWord d v → walk_after step start v ≡ key → Reached d step start keys → Reached d step start met

-- the same in fixed tables, of which the first keys count
pub record IsFixed (index table : List ℕ) (count : ℕ) : Type 0 where
  pub size : length index ≡ 1024
  pub room : length table ≡ 1024
  pub few : count ≤ 1024
  pub at : (i : ℕ) → i < count → (slice_index table i < 1024) × (slice_index index (slice_index table i) ≡ suc i)
  pub back : (k : ℕ) → k < 1024 → (slice_index index k ≡ 0) ⊎ ((i : ℕ) × (i < count) × (slice_index index k ≡ suc i) × (slice_index table i ≡ k))

-- The permutation that disjoint cycles write, in the usual notation of group theory.
use Rattle.std.specs.Prelude.{ℕ, Bool, false, ◌||◌, ◌==◌, if◌then◌else◌, List, [], ◌∷◌, map, flat_map, slice_index, Option, Some, None, unwrap_or}
use Rattle.std.specs.List.{list_any}
use Rattle.fr_model.specs.Permutations.{identity_permutation}

-- the letter after x in a part of a cycle up to its last letter, where `first` is the first of the whole; none where x is not there
abbrev pub letter_after : ℕ → List ℕ → ℕ → Option ℕ
letter_after first [] x = None
letter_after first (y ∷ []) x = if y == x then Some first else None
letter_after first (y ∷ z ∷ more) x = if y == x then Some z else letter_after first (z ∷ more) x

-- the letter after x in a cycle, and the first after the last
abbrev pub next_in_cycle : List ℕ → ℕ → Option ℕ
next_in_cycle cycle x = letter_after (slice_index cycle 0) cycle x

-- the image of x under cycles no two of which have a letter in common: the next letter in its cycle, and x itself where
-- it is in none
abbrev pub disjoint_cycles_image : List (List ℕ) → ℕ → ℕ
disjoint_cycles_image [] x = x
disjoint_cycles_image (cycle ∷ cycles) x = unwrap_or (next_in_cycle cycle x) (disjoint_cycles_image cycles x)

-- the images of the letters of an alphabet
abbrev pub cycles_permutation : ℕ → List (List ℕ) → List ℕ
cycles_permutation d cycles = map (disjoint_cycles_image cycles) (identity_permutation d)

-- the letters in cycles
abbrev pub cycles_letters : List (List ℕ) → List ℕ
cycles_letters cycles = flat_map (λ cycle. cycle) cycles

-- whether a letter stands twice
abbrev pub has_repeat : List ℕ → Bool
has_repeat [] = false
has_repeat (x ∷ xs) = list_any (λ y. y == x) xs || has_repeat xs

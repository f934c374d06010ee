-- The laws of the tree of splits and joins of seats, which the functions of this crate prove. This project's own.
use Rattle.std.specs.Prelude.{◌≡◌, ◌≢◌, ℕ, ◌<◌, ◌≤◌, List, [], ◌∷◌, ◌++◌, slice_set}
use mathlib.Core.Option.{some}
use lib.ListN.{get_elem?}
use Rattle.fr_line.specs.declared.Branch.{Branch}
use Rattle.fr_line.specs.Lines.{here, count, Whole, IsTree, IsLive, first_line, cut, sprout}

-- the seat i has the line l
abbrev pub HasLine : List (List Branch) → ℕ → List Branch → Type 0
HasLine lines i l = get_elem? lines i ≡ some l

-- the one seat that there is at first
pub record FirstSeatIsWhole : Type 0 where
  pub tree : IsTree (first_line ∷ [])
  pub whole : Whole first_line

-- a seat with an address may be split; the new seat comes behind all others
pub record SplitsKeepTheTree : Type 0 where
  pub tree : (lines : List (List Branch)) (i : ℕ) (l : List Branch) → HasLine lines i l → IsLive l → IsTree lines → IsTree (slice_set lines i (cut l) ++ sprout l ∷ [])
  pub old_live : (l : List Branch) → IsLive l → IsLive (cut l)
  pub new_live : (l : List Branch) → IsLive l → IsLive (sprout l)
  pub not_whole : (lines : List (List Branch)) (i : ℕ) (l : List Branch) → HasLine lines i l → IsLive l → IsTree lines → ¬ Whole (cut l)

-- the seat j is joined into the seat i, and has nothing afterwards
pub record JoinsKeepTheTree : Type 0 where
  pub tree : (lines : List (List Branch)) (i j : ℕ) (l m : List Branch) → j ≢ i → HasLine lines i l → HasLine lines j m → IsTree lines → IsTree (slice_set (slice_set lines i (l ++ m)) j [])
  pub live : (l m : List Branch) → IsLive l → IsLive (l ++ m)

-- the whole seat is the one seat that is not spent
pub record WholeSeatIsAlone : Type 0 where
  pub alone : (lines : List (List Branch)) (i j : ℕ) (l m : List Branch) → j ≢ i → HasLine lines i l → HasLine lines j m → IsTree lines → Whole l → m ≡ []
  pub whole : (lines : List (List Branch)) (i : ℕ) (l : List Branch) → HasLine lines i l → ((j : ℕ) (m : List Branch) → j ≢ i → HasLine lines j m → m ≡ []) → IsTree lines → Whole l

-- the same tree without sums: who has which address
pub record LinesMakeATree : Type 0 where
  pub once : (lines : List (List Branch)) (a : List ℕ) (i : ℕ) (l : List Branch) → IsTree lines → HasLine lines i l → here a l ≤ 1
  pub one_seat : (lines : List (List Branch)) (a : List ℕ) (i j : ℕ) (l m : List Branch) → IsTree lines → HasLine lines i l → HasLine lines j m → 0 < here a l → 0 < here a m → j ≡ i
  pub root : (lines : List (List Branch)) → IsTree lines → (i : ℕ) × (l : List Branch) × HasLine lines i l × (0 < here [] l)
  pub child : (lines : List (List Branch)) (k : ℕ) (a : List ℕ) (i : ℕ) (l : List Branch) → IsTree lines → HasLine lines i l → k < count a l → (j : ℕ) × (m : List Branch) × HasLine lines j m × (0 < here (k ∷ a) m)
  pub parent : (lines : List (List Branch)) (k : ℕ) (a : List ℕ) (j : ℕ) (m : List Branch) → IsTree lines → HasLine lines j m → 0 < here (k ∷ a) m → (i : ℕ) × (l : List Branch) × HasLine lines i l × (k < count a l)

-- one seat with the line l, and the lines of those that were split from it and are still out
pub record CrewsKeepTheTree : Type 0 where
  pub begins : (lines : List (List Branch)) (i : ℕ) (l : List Branch) → HasLine lines i l → IsTree lines → Whole l → IsTree (l ∷ [])
  pub split : (l : List Branch) (outs : List (List Branch)) → IsLive l → IsTree (l ∷ outs) → IsTree (cut l ∷ (outs ++ sprout l ∷ []))
  pub first_back : (l m : List Branch) (outs : List (List Branch)) → IsTree (l ∷ m ∷ outs) → IsTree ((l ++ m) ∷ outs)
  pub last_back : (l m : List Branch) (outs : List (List Branch)) → IsTree (l ∷ (outs ++ m ∷ [])) → IsTree ((l ++ m) ∷ outs)
  pub all_back : (l : List Branch) → IsTree (l ∷ []) → Whole l

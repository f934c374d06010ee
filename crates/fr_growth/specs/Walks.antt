-- Chains of cycles of an automaton, as states in place of sections (Sidki, on the growth of activity).
use Rattle.std.specs.Prelude.{ℕ, zero, suc, ◌≡◌, ◌≢◌, ◌+◌, ◌==◌, Bool, false, List, [], ◌∷◌, slice_index}
use Rattle.fr_model.specs.Words.{IsWord}
use Rattle.fr_model.specs.Automata.{State, state_after}
use Rattle.fr_model.specs.Activity.{Link}

-- the rows outside a list of marks
abbrev pub unmarked : List ℕ → ℕ → Bool
unmarked marks s = slice_index marks s == 0

-- the sum of f over the letters 1 to k
abbrev pub sum_letters : (ℕ → ℕ) → ℕ → ℕ
sum_letters f zero = 0
sum_letters f (suc k) = sum_letters f k + f (suc k)

-- no word leads from the head of the chain back to h
abbrev pub NoWayBack : ℕ → List State → ℕ → List Link → Type 0
NoWayBack d qs h [] = Unit {0}
NoWayBack d qs h (m ∷ ms) = (v : List ℕ) → IsWord d v → state_after qs (state_after qs h m.at) v ≢ h

-- a chain of states from s on, each on a cycle, with no way back from one to the one before
abbrev pub IsStateChain : ℕ → List State → (ℕ → Bool) → ℕ → List Link → Type 0
IsStateChain d qs dead s [] = Unit {0}
IsStateChain d qs dead s (l ∷ ls) =
    IsWord d l.at × IsWord d l.back × (l.back ≢ []) × (dead (state_after qs s l.at) ≡ false)
    × (state_after qs (state_after qs s l.at) l.back ≡ state_after qs s l.at)
    × NoWayBack d qs (state_after qs s l.at) ls × IsStateChain d qs dead (state_after qs s l.at) ls

-- Which states words and cycles lead to.
use Rattle.std.proofs.Common.{ℕ, zero, suc, ◌≡◌, ◌≢◌, ◌<◌, inl, inr, List, [], ◌∷◌, refl, arith}
use Rattle.fr_model.specs.Words.{IsWord}
use Rattle.fr_model.specs.Automata.{state_after}
use Rattle.fr_model_examples.specs.Automata.{adding_states, swap_states}
use Rattle.fr_model_examples.specs.WalkInstances.{StatesAreReached, StatesAreLimits}
use Rattle.fr_model_examples.proofs.Letters.{one, two, letter_cases}

-- the identity stays the identity, in both automata
identity_stays : (w : List ℕ) → IsWord 2 w → state_after adding_states 1 w ≡ 1
identity_stays [] k = refl
identity_stays (x ∷ w) k = elim (letter_cases x k.0) [
  | inl e ↦ rw e (identity_stays w k.1)
  | inr e ↦ rw e (identity_stays w k.1)
]

swap_identity_stays : (w : List ℕ) → IsWord 2 w → state_after swap_states 1 w ≡ 1
swap_identity_stays [] k = refl
swap_identity_stays (x ∷ w) k = elim (letter_cases x k.0) [
  | inl e ↦ rw e (swap_identity_stays w k.1)
  | inr e ↦ rw e (swap_identity_stays w k.1)
]

-- each letter leads from the swap to the identity
swap_leaves : (x : ℕ) (w : List ℕ) → IsWord 2 (x ∷ w) → state_after swap_states 0 (x ∷ w) ≡ 1
swap_leaves x w k = elim (letter_cases x k.0) [
  | inl e ↦ rw e (swap_identity_stays w k.1)
  | inr e ↦ rw e (swap_identity_stays w k.1)
]

some_word : (w : List ℕ) → w ≢ [] → IsWord 2 w → state_after swap_states 0 w ≡ 1
some_word [] n k = absurd (n refl)
some_word (x ∷ w) n k = swap_leaves x w k

filled : (x : ℕ) (w : List ℕ) → ◌≢◌ {A = List ℕ} (x ∷ w) []
filled x w e = cc

pub reached : StatesAreReached
reached = record {
  itself = record { along = []; valid = tt; there = refl };
  identity = record { along = 1 ∷ []; valid = one; there = refl };
  not_back = λ r. omega (arith, identity_stays r.along r.valid, r.there);
}

-- the state on the cycle is the identity, from which no word leads to the swap
no_limit : (on : ℕ) (round along : List ℕ) → on < 2 → round ≢ [] → IsWord 2 round → state_after swap_states on round ≡ on → IsWord 2 along → state_after swap_states on along ≡ 0 → ⊥
no_limit zero round along l n k b h t = omega (arith, some_word round n k)
no_limit (suc zero) round along l n k b h t = omega (arith, swap_identity_stays along h)
no_limit (suc (suc i)) round along l n k b h t = omega arith

pub limits : StatesAreLimits
limits = record {
  on_cycle = record { on = 0; state = omega arith; round = 2 ∷ []; round_valid = two; some = filled 2 []; back = refl; reached = record { along = []; valid = tt; there = refl } };
  identity = record { on = 1; state = omega arith; round = 1 ∷ []; round_valid = one; some = filled 1 []; back = refl; reached = record { along = []; valid = tt; there = refl } };
  not_swap = λ r. no_limit r.on r.round r.reached.along r.state r.some r.round_valid r.back r.reached.valid r.reached.there;
  below_cycle = record {
    on = 0;
    state = omega arith;
    round = 2 ∷ 2 ∷ 2 ∷ [];
    round_valid = ((omega arith, omega arith), ((omega arith, omega arith), two));
    some = filled 2 (2 ∷ 2 ∷ []);
    back = refl;
    reached = record { along = 1 ∷ []; valid = one; there = refl };
  };
}

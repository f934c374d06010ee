-- The machine whose one row is the identity.
use Rattle.std.proofs.Common.{ℕ, zero, suc, ◌≡◌, ◌<◌, ◌≤◌, List, [], ◌∷◌, length, get_or, replicate, refl, sym, ◌∙◌, ap, arith}
use Rattle.std.proofs.lemmas.List.{get_or-replicate}
use Rattle.fr_model.specs.Permutations.{identity_permutation}
use Rattle.fr_model.specs.Words.{IsLetter, IsWord}
use Rattle.fr_model.specs.Terms.{One, IsAlike, act}
use Rattle.fr_model.specs.Automata.{state_at, next_state, IsAutomaton}
use Rattle.fr_model.proofs.AlikeLaws.{act-nil, alike_from_words}
use Rattle.fr_model.proofs.AutomatonLaws.{act-state_term, IsTerm-state_term}
use Rattle.fr_model.proofs.PermutationLaws.{IsPermutation-identity, image-identity}
use Rattle.fr_machine.specs.declared.row.Row.{Row}
use Rattle.fr_machine.specs.Rows.{row_term, state_of, states_of, IsRow, IsMachine, row_at}
use Rattle.fr_machine.specs.Minimal.{IsMinimal}
use Rattle.fr_machine.proofs.RowLaws.{IsAutomaton-states_of, length-states_of, IsRow-filled, IsMachine-rows, state_is_row, next_is}

-- ---- the identity
module _ (d : ℕ) (rows : List Row) (few : 2 ≤ d) (most : d ≤ 8) (e : rows ≡ record { perm = identity_permutation d; next = replicate 8 0 } ∷ []) where
  first : row_at rows 0 ≡ record { perm = identity_permutation d; next = replicate 8 0 }
  first = ap (λ xs. row_at xs 0) e

  entry : (x : ℕ) → x < 8 → get_or (row_at rows 0).next x 0 ≡ 0
  entry x l = ap (λ r. get_or r.next x 0) first ∙ get_or-replicate 8 x 0 0 l

  one_row : (s : ℕ) → s < length rows → s ≡ 0
  one_row s l = omega (arith, ap length e)

  pub IsMachine-identity : IsMachine d rows
  IsMachine-identity = IsMachine-rows d rows few most (omega (arith, ap length e)) (omega (arith, ap length e)) (λ s l. rw (one_row s l) valid_identity)
    where
      valid_identity : IsRow d (length rows) (row_at rows 0)
      valid_identity = IsRow-filled d (length rows) (row_at rows 0) most (omega (arith, ap length e)) (rw first (IsPermutation-identity d)) (ap (λ r. length r.next) first) (λ x k. omega (arith, entry x (omega arith), ap length e)) (λ x a b. entry x b)

  auto : IsAutomaton d (states_of rows)
  auto = IsAutomaton-states_of d rows IsMachine-identity

  inside : 0 < length rows
  inside = omega (arith, ap length e)

  inside_states : 0 < length (states_of rows)
  inside_states = omega (arith, inside, length-states_of rows)

  stays : (w : List ℕ) → IsWord d w → act (row_term rows 0) w ≡ w
  stays [] k = act-nil (row_term rows 0)
  stays (x ∷ w) k =
      let same : (state_at (states_of rows) 0).perm ≡ identity_permutation d = ap (λ q. q.perm) (state_is_row d rows IsMachine-identity 0 inside ∙ ap state_of first) in
      let there : next_state (states_of rows) 0 x ≡ 0 = next x k.0 in
      act-state_term d (states_of rows) 0 x w auto inside_states k.0 ∙ rw (same, there, image-identity d x, stays w k.1) refl
    where
      next : (x : ℕ) → IsLetter d x → next_state (states_of rows) 0 x ≡ 0
      next zero h = absurd (omega (arith, h.0))
      next (suc i) h = next_is d rows IsMachine-identity 0 inside i (omega (arith, h.1)) ∙ entry i (omega (arith, h.1))

  pub alike_identity : IsAlike (row_term rows 0) One
  alike_identity = alike_from_words d (IsTerm-state_term d (states_of rows) 0 auto inside_states) tt stays

  pub IsMinimal-identity : IsMinimal d rows
  IsMinimal-identity = record {
    machine = IsMachine-identity;
    small = omega (arith, ap length e);
    reached = λ s l. ([], tt, sym (one_row s l));
    unlike = λ s t h l same. omega (arith, h, l, ap length e);
  }

-- Which rows of a minimal machine act as 1: those that leave each letter and stay at each letter.
use Rattle.std.proofs.Common.{ℕ, ◌≡◌, ◌+◌, ◌<◌, inl, inr, List, [], ◌∷◌, length, refl, sym, ◌∙◌, arith}
use Rattle.std.proofs.lemmas.Bool.{cases_lt}
use Rattle.fr_model.specs.Words.{IsLetter, IsWord}
use Rattle.fr_model.specs.Permutations.{image}
use Rattle.fr_model.specs.Terms.{One, act, IsAlike}
use Rattle.fr_model.specs.Automata.{state_at, next_state, IsAutomaton}
use Rattle.fr_model.proofs.AlikeLaws.{alike_sym, alike_trans, alike_section, act-nil, alike_from_words}
use Rattle.fr_model.proofs.AutomatonLaws.{act-state_term, act-state_letter, section_state_letter, IsTerm-state_term, next_state-lt}
use Rattle.fr_machine.specs.declared.row.Row.{Row}
use Rattle.fr_machine.specs.Rows.{states_of, row_term}
use Rattle.fr_machine.proofs.RowLaws.{length-states_of, IsAutomaton-states_of}
use Rattle.fr_machine.specs.Minimal.{IsMinimal}
use Rattle.fr_model.proofs.GrowthLaws.{section_one}
use Rattle.fr_growth.proofs.RowLaws.{rows_apart}

-- at the letters up to k
pub record StaysTo (k : ℕ) (rows : List Row) (s : ℕ) : Type 0 where
  pub images : (x : ℕ) → IsLetter k x → image (state_at (states_of rows) s).perm x ≡ x
  pub nexts : (x : ℕ) → IsLetter k x → next_state (states_of rows) s x ≡ s

pub stays_none : (rows : List Row) (s : ℕ) → StaysTo 0 rows s
stays_none rows s = record { images = λ x l. absurd (omega (arith, l.0, l.1)); nexts = λ x l. absurd (omega (arith, l.0, l.1)) }

pub stays_more : (k : ℕ) (rows : List Row) (s : ℕ) → StaysTo k rows s → image (state_at (states_of rows) s).perm (k + 1) ≡ k + 1 → next_state (states_of rows) s (k + 1) ≡ s → StaysTo (k + 1) rows s
stays_more k rows s h e f = record {
  images = λ x l. elim (cases_lt x (k + 1)) [ inl q ↦ h.images x (l.0, omega arith) | inr q ↦ let i : x ≡ k + 1 = omega (arith, l.1) in rw i e ];
  nexts = λ x l. elim (cases_lt x (k + 1)) [ inl q ↦ h.nexts x (l.0, omega arith) | inr q ↦ let i : x ≡ k + 1 = omega (arith, l.1) in rw i f ];
}

module _ (d : ℕ) (rows : List Row) (m : IsMinimal d rows) (s : ℕ) (b : s < length rows) where
  a : IsAutomaton d (states_of rows)
  a = IsAutomaton-states_of d rows m.machine

  b' : s < length (states_of rows)
  b' = rw (length-states_of rows) b

  pub still_from : StaysTo d rows s → IsAlike (row_term rows s) One
  still_from h = alike_from_words d (IsTerm-state_term d (states_of rows) s a b') tt same
    where
      same : (w : List ℕ) → IsWord d w → act (row_term rows s) w ≡ act One w
      same [] k = act-nil (row_term rows s)
      same (x ∷ w) k = act-state_term d (states_of rows) s x w a b' k.0 ∙ rw (h.images x k.0, h.nexts x k.0, same w k.1) refl

  pub still_image : IsAlike (row_term rows s) One → (x : ℕ) → IsLetter d x → image (state_at (states_of rows) s).perm x ≡ x
  still_image h x l = heads (sym (act-state_letter d (states_of rows) s x a b' l) ∙ h.images (x ∷ []))
    where
      heads : {y z : ℕ} → ◌≡◌ {A = List ℕ} (y ∷ []) (z ∷ []) → y ≡ z
      heads e = cc

  pub still_next : IsAlike (row_term rows s) One → (x : ℕ) → IsLetter d x → next_state (states_of rows) s x ≡ s
  still_next h x l =
      let n = next_state-lt d (states_of rows) s x a b' in
      rows_apart d rows m (next_state (states_of rows) s x) s (rw length-states_of at n) b
      (alike_trans (alike_sym (section_state_letter d (states_of rows) s x a b' l)) (alike_trans (alike_section (x ∷ []) h) (alike_trans (section_one (x ∷ [])) (alike_sym h))))

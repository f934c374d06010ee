-- Rows from which words of a length lead to marked ones.
use Rattle.std.proofs.Common.{ℕ, zero, suc, ◌≡◌, ◌+◌, ◌<◌, ◌≤◌, inl, inr, Bool, true, false, List, [], ◌∷◌, length, get_or, refl, sym, ◌∙◌, subst, arith}
use mathlib.Core.Bool.{beq}
use Rattle.std.proofs.lemmas.Bool.{cases_lt}
use Rattle.fr_model.specs.Words.{IsWord}
use Rattle.fr_model.specs.Automata.{State, next_state, state_after, IsAutomaton, IsLimitState}
use Rattle.fr_model.proofs.AutomatonLaws.{state_after-lt}
use Rattle.fr_machine.specs.declared.row.Row.{Row}
use Rattle.fr_machine.specs.Rows.{states_of, IsMachine, row_at}
use Rattle.fr_machine.proofs.RowLaws.{IsAutomaton-states_of, length-states_of, row_valid, next_is}
use Rattle.fr_nucleus.specs.Depths.{mark_at, LeadsIn, IsWayOut, AreBack, IsBackOf}
use Rattle.fr_model.proofs.LimitStateLaws.{IsLimitState-from, long_state}

-- no letters lead on
pub AreBack-start : (d : ℕ) (qs : List State) (marks : List Bool) → length marks ≡ length qs → AreBack d qs marks 0 marks
AreBack-start d qs marks n = record {
  count = n;
  leads = λ s l e. ([], tt, refl, e);
  none = λ s l e h. end s h.0 h.2 e h.3;
}
  where
    end : (s : ℕ) (v : List ℕ) → length v ≡ 0 → mark_at marks s ≡ false → mark_at marks (state_after qs s v) ≡ true → ⊥
    end s [] z e f = let g : false ≡ true = sym e ∙ f in cc
    end s (x ∷ v) z e f = absurd (omega arith)

module _ (d : ℕ) (rows : List Row) (m : IsMachine d rows) where
  abbrev qs : List State
  qs = states_of rows

  auto : IsAutomaton d qs
  auto = IsAutomaton-states_of d rows m

  -- one letter more
  pub AreBack-more : (marks here back : List Bool) (k : ℕ) → AreBack d qs marks k here → IsBackOf rows here back → AreBack d qs marks (k + 1) back
  AreBack-more marks here back k h b = record {
    count = b.count ∙ sym (length-states_of rows);
    leads = λ s l e.
        let sl : s < length rows = omega (arith, length-states_of rows) in
        let f = b.marked s sl e in
        let x = f.0 in
        let xd : x < d = omega (arith, f.1, (row_valid d rows m s sl).permutes.degree) in
        let n = get_or (row_at rows s).next x 0 in
        let there : next_state qs s (suc x) ≡ n = next_is d rows m s sl x xd in
        let below : n < length qs = omega (arith, there, state_after-lt d qs s (suc x ∷ []) auto l) in
        let w = h.leads n below f.2 in
        (suc x ∷ w.0, ((omega arith, omega arith), w.1), omega (arith, w.2), subst (λ z. mark_at marks (state_after qs z w.0) ≡ true) (sym there) w.3);
    none = λ s l e w. stuck s l e w.0 w.1 w.2 w.3;
  }
    where
      stuck : (s : ℕ) → s < length qs → mark_at back s ≡ false → (v : List ℕ) → IsWord d v → length v ≡ k + 1 → mark_at marks (state_after qs s v) ≡ true → ⊥
      stuck s l e [] w n f = absurd (omega arith)
      stuck s l e (zero ∷ v) w n f = absurd (omega (arith, w.0.0))
      stuck s l e (suc x ∷ v) w n f =
          let sl : s < length rows = omega (arith, length-states_of rows) in
          let xd : x < d = omega (arith, w.0.1) in
          let there = next_is d rows m s sl x xd in
          let free = b.free s sl e x (omega (arith, xd, (row_valid d rows m s sl).permutes.degree)) in
          let below : next_state qs s (suc x) < length qs = state_after-lt d qs s (suc x ∷ []) auto l in
          h.none (next_state qs s (suc x)) below (rw there free) (v, w.1, omega (arith, n), f)

  -- words that are as long as the rows are many lead to no mark, where no limit row is marked
  pub short : (marks : List Bool) (k s : ℕ) → ((r : ℕ) → r < length rows → IsLimitState d qs r → mark_at marks r ≡ false) → s < length qs → LeadsIn d qs marks k s → k < length rows
  short marks k s h l w = elim (cases_lt k (length rows)) [
    | inl t ↦ t
    | inr t ↦
        let r = state_after qs s w.0 in
        let f = long_state d qs s w.0 auto l w.1 (omega (arith, w.2, length-states_of rows)) in
        let e = h r (omega (arith, length-states_of rows, state_after-lt d qs s w.0 auto l)) (IsLimitState-from d qs s r auto l f) in
        let g : false ≡ true = sym e ∙ w.3 in
        cc
  ]

pub is_true : (b : Bool) → beq b true ≡ true → b ≡ true
is_true true e = refl
is_true false e = e

pub is_false : (b : Bool) → beq b true ≡ false → b ≡ false
is_false true e = e
is_false false e = refl

-- a mark that is found
pub some_mark : (marks : List Bool) → (x : ℕ) × (x < length marks) × ((d : Bool) → beq (get_or marks x d) true ≡ true) → (s : ℕ) × (s < length marks) × (mark_at marks s ≡ true)
some_mark marks h = (h.0, h.1, is_true (mark_at marks h.0) (h.2 false))

module _ (d : ℕ) (rows : List Row) (marks here : List Bool) (k : ℕ) (h : AreBack d (states_of rows) marks k here) where
  pub leading : (x : ℕ) × (x < length here) × ((d : Bool) → beq (get_or here x d) true ≡ true) → (s : ℕ) × (s < length (states_of rows)) × LeadsIn d (states_of rows) marks k s
  leading f =
      let s = some_mark here f in
      let l : s.0 < length (states_of rows) = omega (arith, s.1, h.count) in
      (s.0, l, h.leads s.0 l s.2)

  pub IsWayOut-from : ((i : ℕ) (e : Bool) → 0 ≤ i → i < length here → beq (get_or here i e) true ≡ false) → ((j : ℕ) → k ≡ suc j → (s : ℕ) × (s < length (states_of rows)) × LeadsIn d (states_of rows) marks j s) → IsWayOut d (states_of rows) marks k
  IsWayOut-from none last = record {
    within = λ s l. h.none s l (is_false (mark_at here s) (none s false (omega arith) (omega (arith, h.count))));
    last = last;
  }

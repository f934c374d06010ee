-- The machine of the inverses.
use Rattle.std.proofs.Common.{ℕ, zero, suc, ◌≡◌, ◌≢◌, ◌+◌, ◌-◌, ◌<◌, ◌≤◌, inl, inr, List, [], ◌∷◌, ◌++◌, length, drop, set, get_or, replicate, sym, ◌∙◌, ap, arith, sub-one}
use Rattle.std.proofs.lemmas.List.{get_or_default, get_or_append_left, get_or_push, length_push, get_or-drop, length-drop, get_or-set_same, get_or-set_other, length-set, get_or-replicate}
use Rattle.std.proofs.lemmas.List.Elements.{All-get_or, All-from_get_or}
use Rattle.std.proofs.lemmas.Bool.{cases_lt, cases_eq}
use Rattle.fr_model.specs.Words.{IsLetter}
use Rattle.fr_model.specs.Permutations.{IsPermutation, image, preimage, inverse_permutation}
use Rattle.fr_model.specs.Automata.{state_at, next_state}
use Rattle.fr_model.specs.Constructions.{IsInverseOf}
use Rattle.fr_model.proofs.PermutationLaws.{IsPermutation-inverse, image-inverse, preimage-IsLetter}
use Rattle.fr_model.proofs.ConstructionLaws.{inverse_alike}
use Rattle.fr_machine.specs.declared.row.Row.{Row}
use Rattle.fr_machine.specs.Rows.{state_of, states_of, IsRow, IsMachine, row_at}
use Rattle.fr_machine.specs.Inverses.{IsInverseRow, AreInverses}
use Rattle.fr_machine.proofs.RowLaws.{IsAutomaton-states_of, length-states_of, state_at_row, next_row}

-- the next rows of an inverse, as far as they are written
pub record IsInversePart (r : Row) (next : List ℕ) (i : ℕ) : Type 0 where
  pub width : length next ≡ 8
  pub nexts : (y : ℕ) → y < i → get_or next y 0 ≡ get_or r.next (preimage r.perm (suc y) - 1) 0
  pub zeros : (y : ℕ) → i ≤ y → y < 8 → get_or next y 0 ≡ 0

pub IsInversePart-start : (r : Row) (next : List ℕ) → next ≡ replicate 8 0 → IsInversePart r next 0
IsInversePart-start r next e = record { width = ap length e; nexts = λ y l. absurd (omega arith); zeros = λ y l h. ap (λ xs. get_or xs y 0) e ∙ get_or-replicate 8 y 0 0 h }

pub IsInversePart-more : (r : Row) (next next' : List ℕ) (i v : ℕ) → IsInversePart r next i → i < 8 → v ≡ get_or r.next (preimage r.perm (suc i) - 1) 0 → next' ≡ set next i v → IsInversePart r next' (i + 1)
IsInversePart-more r next next' i v h l e f =
    let here : get_or next' i 0 ≡ v = ap (λ xs. get_or xs i 0) f ∙ get_or-set_same next i v 0 (omega (arith, h.width)) in
    let other : (y : ℕ) → y ≢ i → get_or next' y 0 ≡ get_or next y 0 = λ y n. ap (λ xs. get_or xs y 0) f ∙ get_or-set_other next i y v 0 n in
    record {
      width = ap length f ∙ length-set next i v ∙ h.width;
      nexts = λ y k. elim (cases_eq y i) [ inl t ↦ rw t (here ∙ e) | inr t ↦ other y t ∙ h.nexts y (omega arith) ];
      zeros = λ y k b. other y (λ t. omega arith) ∙ h.zeros y (omega arith) b;
    }

-- the rows so far
abbrev pub AreInverseRows : List Row → List Row → Type 0
AreInverseRows rows others = (s : ℕ) → s < length others → IsInverseRow (row_at rows s) (row_at others s)

pub AreInverseRows-more : (rows others others' : List Row) (r q : Row) → AreInverseRows rows others → r ≡ row_at rows (length others) → IsInverseRow r q → others' ≡ others ++ q ∷ [] → AreInverseRows rows others'
AreInverseRows-more rows others others' r q h e i f s l = elim (cases_lt s (length others)) [
  | inl t ↦
      let same : row_at others' s ≡ row_at others s = ap (λ xs. row_at xs s) f ∙ get_or_append_left others (q ∷ []) (record { perm = []; next = [] }) s t in
      rw same (h s t)
  | inr t ↦
      let at : length others ≡ s = omega (arith, ap length f, length_push others q) in
      let same : row_at others' s ≡ q = ap (λ xs. row_at xs s) f ∙ get_or_push others q (record { perm = []; next = [] }) s at in
      rw (same, ← at, ← e) i
]

module _ (d : ℕ) (rows others : List Row) (m : IsMachine d rows) (count : length others ≡ length rows) (h : AreInverseRows rows others) where
  row_is_at : (s : ℕ) → s < length rows → IsRow d (length rows) (row_at rows s)
  row_is_at s l = m.valid s _ l

  inverse_valid : (s : ℕ) → s < length rows → IsRow d (length others) (row_at others s)
  inverse_valid s l =
      let r = row_is_at s l in
      let i = h s (omega (arith, count)) in
      let g : IsPermutation d (row_at others s).perm = rw i.perm (IsPermutation-inverse d (row_at rows s).perm r.permutes) in
      record {
        permutes = g;
        width = i.width;
        below = All-from_get_or (λ n. n < length others) (row_at others s).next 0 (λ y k. elim (cases_lt y d) [
          | inl t ↦
              let p = preimage-IsLetter d (row_at rows s).perm (suc y) r.permutes (omega arith, omega arith) in
              let b = All-get_or (λ n. n < length rows) (row_at rows s).next (preimage (row_at rows s).perm (suc y) - 1) 0 (omega (arith, p.0, p.1, r.width, m.letters)) r.below in
              omega (arith, i.nexts y (omega (arith, r.permutes.degree)), b, count)
          | inr t ↦ omega (arith, i.zeros y (omega (arith, r.permutes.degree)) (omega (arith, i.width)), l, count)
        ]);
        zeros = All-from_get_or (λ n. n ≡ 0) (drop d (row_at others s).next) 0 (λ y k. get_or-drop d (row_at others s).next y 0 ∙ i.zeros (d + y) (omega (arith, r.permutes.degree)) (omega (arith, length-drop d (row_at others s).next, i.width)));
      }

  pub IsMachine-inverse : IsMachine d others
  IsMachine-inverse = record {
    few = m.few;
    letters = m.letters;
    least = omega (arith, count, m.least);
    most = omega (arith, count, m.most);
    valid = λ s e l. rw (get_or_default others s e (record { perm = []; next = [] }) l) (inverse_valid s (omega (arith, count)));
  }

  state_is_row : (s : ℕ) → (l : s < length rows) → state_at (states_of rows) s ≡ state_of (row_at rows s)
  state_is_row s l = state_at_row d rows m s l (row_at rows s) (get_or_default rows s _ _ l)

  is_inverse : IsInverseOf d (states_of rows) (states_of others)
  is_inverse = record {
    automaton = IsAutomaton-states_of d others IsMachine-inverse;
    count = length-states_of others ∙ count ∙ sym (length-states_of rows);
    outputs = λ s y l k.
        let a : s < length rows = omega (arith, length-states_of others, count) in
        let b : s < length others = omega (arith, length-states_of others) in
        let e : (state_at (states_of others) s).perm ≡ inverse_permutation (row_at rows s).perm = ap (λ q. q.perm) (state_at_row d others IsMachine-inverse s b (row_at others s) (get_or_default others s _ _ b)) ∙ (h s b).perm in
        ap (λ p. image p y) e ∙ image-inverse d (row_at rows s).perm (row_is_at s a).permutes y ∙ ap (λ q. preimage q.perm y) (sym (state_is_row s a));
    nexts = λ s y l k. next_same s y (omega (arith, length-states_of others, count)) k;
  }
    where
      next_same : (s y : ℕ) → s < length rows → IsLetter d y → next_state (states_of others) s y ≡ next_state (states_of rows) s (preimage (state_at (states_of rows) s).perm y)
      next_same s zero a k = absurd (omega (arith, k.0))
      next_same s (suc y) a k =
          let b : s < length others = omega (arith, count) in
          let r = row_is_at s a in
          let there : get_or (row_at others s).next y 0 ≡ next_state (states_of others) s (suc y) = rw sub-one at (next_row d others IsMachine-inverse s b (row_at others s) (get_or_default others s _ _ b) (suc y) k) in
          let x = preimage (row_at rows s).perm (suc y) in
          let here = next_row d rows m s a (row_at rows s) (get_or_default rows s _ _ a) x (preimage-IsLetter d (row_at rows s).perm (suc y) r.permutes k) in
          sym there ∙ (h s b).nexts y (omega (arith, r.permutes.degree, k.1)) ∙ here ∙ ap (λ q. next_state (states_of rows) s (preimage q.perm (suc y))) (sym (state_is_row s a))

  pub AreInverses-from : AreInverses rows others
  AreInverses-from s l = inverse_alike d (states_of rows) (states_of others) (IsAutomaton-states_of d rows m) is_inverse s (omega (arith, length-states_of others, count))

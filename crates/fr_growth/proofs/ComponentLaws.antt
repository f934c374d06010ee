-- Rows and their components: which letters stay, and rows that act as 1.
use Rattle.std.proofs.Common.{ℕ, zero, suc, ◌≡◌, ◌≢◌, ◌==◌, ◌<◌, ◌≤◌, ◌⊎◌, inl, inr, if◌then◌else◌, Bool, true, false, List, [], ◌∷◌, length, get_or, refl, sym, ◌∙◌, ap, arith, eq-eqb}
use Rattle.std.proofs.lemmas.Bool.{cases_order, eqb-true, ne_eqb}
use Rattle.fr_model.specs.Words.{IsLetter, IsWord}
use Rattle.fr_model.specs.Automata.{next_state, state_after}
use Rattle.fr_machine.specs.declared.row.Row.{Row}
use Rattle.fr_machine.specs.Rows.{states_of}
use Rattle.fr_machine.specs.Minimal.{IsMinimal}
use Rattle.fr_machine.proofs.RowLaws.{length-states_of, IsAutomaton-states_of}
use Rattle.fr_growth.specs.Walks.{unmarked, sum_letters}
use Rattle.fr_growth.specs.Components.{AreComponents}
use Rattle.fr_growth.specs.Levels.{AreMoving, AreReturns, returns_of, stays, next_component}
use Rattle.fr_growth.proofs.WalkLaws.{sum_letters-one, sum_letters-other}
use Rattle.fr_growth.proofs.ChainLaws.{IsReduced}
use Rattle.fr_growth.proofs.RowLaws.{auto_next, rows_apart}
use Rattle.fr_growth.proofs.StillLaws.{still_next}

-- ---- counts of letters
true_or_false : (b : Bool) → (b ≡ true) ⊎ (b ≡ false)
true_or_false true = inl refl
true_or_false false = inr refl

-- a test holds at no letter, or at some
pub none_or_some : (p : ℕ → Bool) (k : ℕ) → ((x : ℕ) → IsLetter k x → p x ≡ false) ⊎ ((y : ℕ) × IsLetter k y × (p y ≡ true))
none_or_some p zero = inl (λ x l. absurd (omega (arith, l.0, l.1)))
none_or_some p (suc k) = elim (true_or_false (p (suc k))) [
  | inl e ↦ inr (suc k, (omega arith, omega arith), e)
  | inr e ↦ elim (none_or_some p k) [
    | inl h ↦ inl (λ x l. elim (cases_order x (suc k)) [
      | inl s ↦ rw s e
      | inr o ↦ elim o [ inl q ↦ h x (l.0, omega arith) | inr q ↦ absurd (omega (arith, l.1)) ]
    ])
    | inr h ↦ inr (h.0, (h.1.0, omega (arith, h.1.1)), h.2)
  ]
]

pub count_one : (p : ℕ → Bool) (k y : ℕ) → IsLetter k y → p y ≡ true → 1 ≤ sum_letters (λ x. if p x then 1 else 0) k
count_one p k y l e =
    let one = sum_letters-one (λ x. if p x then 1 else 0) k y l in
    let one' = rw e at one in
    omega (arith, one')

pub count_two : (p : ℕ → Bool) (k x y : ℕ) → IsLetter k x → IsLetter k y → x ≢ y → p x ≡ true → p y ≡ true → 2 ≤ sum_letters (λ x. if p x then 1 else 0) k
count_two p k x y l m n e f =
    let two = sum_letters-other (λ x. if p x then 1 else 0) k x y l m n in
    let two' = rw (e, f) at two in
    omega (arith, two')

pub count_none : (p : ℕ → Bool) (k : ℕ) → ((x : ℕ) → IsLetter k x → p x ≡ false) → sum_letters (λ x. if p x then 1 else 0) k ≡ 0
count_none p zero h = refl
count_none p (suc k) h = rw (h (suc k) (omega arith, omega arith), count_none p k (λ x l. h x (l.0, omega (arith, l.1)))) refl

-- ---- the automaton of the rows
pub reduced_rows : (d : ℕ) (rows : List Row) (moving : List ℕ) → IsMinimal d rows → AreMoving rows moving → IsReduced d (states_of rows) (unmarked moving)
reduced_rows d rows moving m v = record {
  automaton = IsAutomaton-states_of d rows m.machine;
  apart = λ s t a b h. rows_apart d rows m s t (rw length-states_of at a) (rw length-states_of at b) h;
  still = λ s a.
      let r = v.right s (rw length-states_of at a) in
      (λ e. r.0 (eqb-true (get_or moving s 0) 0 e), λ h. eq-eqb (get_or moving s 0) 0 (r.1 h));
}

module _ (d : ℕ) (rows : List Row) (m : IsMinimal d rows) (numbers : List ℕ) (a : AreComponents d rows numbers) where
  -- along a word the number does not grow
  pub number_after : (s : ℕ) (w : List ℕ) → s < length rows → IsWord d w → get_or numbers (state_after (states_of rows) s w) 0 ≤ get_or numbers s 0
  number_after s [] l h = omega arith
  number_after s (x ∷ w) l h = omega (arith, number_after (next_state (states_of rows) s x) w (auto_next d rows m.machine s x l) h.1, a.falls s x l h.0)

  -- a word to a row of the component stays there
  pub word_stays : (s x : ℕ) (w : List ℕ) → s < length rows → IsLetter d x → IsWord d w → get_or numbers (state_after (states_of rows) (next_state (states_of rows) s x) w) 0 ≡ get_or numbers s 0 → next_component rows numbers s x ≡ get_or numbers s 0
  word_stays s x w l k h e = omega (arith, e, number_after (next_state (states_of rows) s x) w (auto_next d rows m.machine s x l) h, a.falls s x l k)

  module _ (moving : List ℕ) (v : AreMoving rows moving) where
    -- a row that acts as 1 stays where it is
    pub still_after : (s : ℕ) (w : List ℕ) → s < length rows → IsWord d w → get_or moving s 0 ≡ 0 → state_after (states_of rows) s w ≡ s
    still_after s [] l h e = refl
    still_after s (x ∷ w) l h e = ap (λ z. state_after (states_of rows) z w) (still_next d rows m s l ((v.right s l).0 e) x h.0) ∙ still_after s w l h.1 e

    module _ (returns : List ℕ) (t : AreReturns d rows moving numbers returns) where
      pub returns_here : (s : ℕ) → s < length rows → get_or moving s 0 ≢ 0 → get_or returns s 0 ≡ returns_of d rows numbers s
      returns_here s b n = t.right s b ∙ at (get_or moving s 0) n
        where
          at : (c : ℕ) → c ≢ 0 → (if c == 0 then 0 else returns_of d rows numbers s) ≡ returns_of d rows numbers s
          at c h = rw (ne_eqb c 0 h) refl

      pub returns_still : (s : ℕ) → s < length rows → get_or moving s 0 ≡ 0 → get_or returns s 0 ≡ 0
      returns_still s b e = t.right s b ∙ rw e refl

      -- where a row does not return, its component has no other row
      pub same_row : (r s : ℕ) → r < length rows → s < length rows → get_or numbers r 0 ≡ get_or numbers s 0 → get_or returns r 0 ≡ 0 → r ≡ s
      same_row r s b c e none = let w = a.joined r s b c e in along w.along w.valid w.there
        where
          along : (w : List ℕ) → IsWord d w → state_after (states_of rows) r w ≡ s → r ≡ s
          along [] h f = f
          along (x ∷ w) h f = elim (cases_order (get_or moving r 0) 0) [
            | inl still ↦ sym (still_after r (x ∷ w) b h still) ∙ f
            | inr o ↦
                let moves : get_or moving r 0 ≢ 0 = elim o [ inl q ↦ (λ z. omega arith) | inr q ↦ (λ z. omega arith) ] in
                let stay = word_stays r x w b h.0 h.1 (ap (λ z. get_or numbers z 0) f ∙ sym e) in
                absurd (omega (arith, none, returns_here r b moves, count_one (stays rows numbers r) d x h.0 (eq-eqb (next_component rows numbers r x) (get_or numbers r 0) stay)))
          ]

      -- a row that returns moves
      pub returns_moves : (s : ℕ) → s < length rows → get_or returns s 0 ≢ 0 → get_or moving s 0 ≢ 0
      returns_moves s b n e = n (returns_still s b e)

      -- a row that is not alone in its component moves
      pub other_moves : (s u : ℕ) → s < length rows → u < length rows → get_or numbers s 0 ≡ get_or numbers u 0 → s ≢ u → get_or moving s 0 ≢ 0
      other_moves s u b c e ne z = let w = a.joined s u b c e in ne (sym (still_after s w.along b w.valid z) ∙ w.there)

      -- a row stays in its component at one letter at most
      pub one_letter : (s x y : ℕ) → s < length rows → get_or moving s 0 ≢ 0 → get_or returns s 0 ≤ 1 → IsLetter d x → IsLetter d y → next_component rows numbers s x ≡ get_or numbers s 0 → next_component rows numbers s y ≡ get_or numbers s 0 → x ≡ y
      one_letter s x y b n few k l e f = elim (cases_order x y) [
        | inl z ↦ z
        | inr o ↦
            let ne : x ≢ y = elim o [ inl q ↦ (λ z. omega arith) | inr q ↦ (λ z. omega arith) ] in
            absurd (omega (arith, few, returns_here s b n, count_two (stays rows numbers s) d x y k l ne (eq-eqb (next_component rows numbers s x) (get_or numbers s 0) e) (eq-eqb (next_component rows numbers s y) (get_or numbers s 0) f)))
      ]

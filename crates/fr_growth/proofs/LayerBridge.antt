-- Why the heights and the levels of components are ranks and levels of an automaton.
use Rattle.std.proofs.Common.{ℕ, zero, suc, ◌≡◌, ◌≢◌, ◌+◌, ◌<◌, ◌≤◌, ◌⊎◌, inl, inr, false, List, length, get_or, refl, sym, ap, arith, eq-eqb}
use Rattle.std.proofs.lemmas.Bool.{cases_order, both_ways, eqb-true, ne_eqb}
use Rattle.fr_model.specs.Words.{IsLetter}
use Rattle.fr_model.specs.Automata.{next_state}
use Rattle.fr_machine.specs.declared.row.Row.{Row}
use Rattle.fr_machine.specs.Rows.{states_of}
use Rattle.fr_machine.specs.Minimal.{IsMinimal}
use Rattle.fr_machine.proofs.RowLaws.{length-states_of}
use Rattle.fr_growth.specs.Walks.{unmarked}
use Rattle.fr_growth.specs.Components.{AreComponents}
use Rattle.fr_growth.specs.Levels.{AreMoving, AreReturns, AreLevels, stays, next_component}
use Rattle.fr_growth.proofs.WalkLaws.{live_words, sum_letters-one}
use Rattle.fr_growth.proofs.LayerLaws.{IsLayered, Falls, Turns}
use Rattle.fr_growth.proofs.ChainLaws.{dead_stays_dead}
use Rattle.fr_growth.proofs.RowLaws.{auto_next}
use Rattle.fr_growth.proofs.StillLaws.{still_next}
use Rattle.fr_growth.proofs.ComponentLaws.{none_or_some, count_one, count_two, reduced_rows, returns_here, same_row}

-- the level of a row's component
abbrev pub level_at : List ℕ → List ℕ → ℕ → ℕ
level_at numbers levels s = get_or levels (get_or numbers s 0) 0

-- ranks of components, which fall where a letter of a row that moves leaves its component
pub record AreRanks (d : ℕ) (rows : List Row) (moving numbers : List ℕ) (rank : ℕ → ℕ) : Type 0 where
  pub falls : (s x : ℕ) → s < length rows → get_or moving s 0 ≡ 1 → IsLetter d x → next_component rows numbers s x ≢ get_or numbers s 0 → rank (next_component rows numbers s x) < rank (get_or numbers s 0)
  pub least : (s : ℕ) → s < length rows → get_or moving s 0 ≡ 1 → 1 ≤ rank (get_or numbers s 0)
  pub most : (s : ℕ) → s < length rows → rank (get_or numbers s 0) ≤ length rows

-- the numbers are ranks, and the heights
pub numbers_rank : (d : ℕ) (rows : List Row) (moving numbers : List ℕ) → AreComponents d rows numbers → AreRanks d rows moving numbers (λ c. c + 1)
numbers_rank d rows moving numbers a = record {
  falls = λ s x b n k out. omega (arith, a.falls s x b k, unequal (next_component rows numbers s x) (get_or numbers s 0) out);
  least = λ s b n. omega arith;
  most = λ s b. omega (arith, a.small s b);
}
  where
    unequal : (p q : ℕ) → p ≢ q → (p < q) ⊎ (q < p)
    unequal p q ne = elim (cases_order p q) [ inl e ↦ absurd (ne e) | inr o ↦ o ]

pub heights_rank : (d : ℕ) (rows : List Row) (moving numbers heights tops : List ℕ) → AreComponents d rows numbers → AreLevels d rows numbers moving heights tops → AreRanks d rows moving numbers (λ c. get_or heights c 0)
heights_rank d rows moving numbers heights tops a h = record {
  falls = λ s x b n k out. omega (arith, n, h.above s x b k out);
  least = λ s b n. omega (arith, n, h.turn s b);
  most = λ s b. omega (arith, h.low (get_or numbers s 0), a.small s b);
}

module _ (d : ℕ) (rows : List Row) (m : IsMinimal d rows) (moving : List ℕ) (v : AreMoving rows moving) (numbers : List ℕ) (a : AreComponents d rows numbers)
    (returns : List ℕ) (t : AreReturns d rows moving numbers returns) (few : (s : ℕ) → get_or returns s 0 ≤ 1) (levels heads : List ℕ) (l : AreLevels d rows numbers returns levels heads) where
  next_row-lt : (s x : ℕ) → s < length rows → next_state (states_of rows) s x < length rows
  next_row-lt s x b = auto_next d rows m.machine s x b

  live_row : (s : ℕ) → unmarked moving s ≡ false → get_or moving s 0 ≡ 1
  live_row s e = one (get_or moving s 0) (v.small s) (λ z. both_ways (unmarked moving s) e (eq-eqb (get_or moving s 0) 0 z))
    where
      one : (c : ℕ) → c ≤ 1 → c ≢ 0 → c ≡ 1
      one zero a n = absurd (n refl)
      one (suc c) a n = omega arith

  layer : (rank : ℕ → ℕ) → AreRanks d rows moving numbers rank → (s : ℕ) → s < length rows → unmarked moving s ≡ false
      → Falls d (states_of rows) (unmarked moving) (λ q. rank (get_or numbers q 0)) (level_at numbers levels) s ⊎ Turns d (states_of rows) (unmarked moving) (λ q. rank (get_or numbers q 0)) (level_at numbers levels) s
  layer rank r s b e =
      let n = live_row s e in
      let back = stays rows numbers s in
      let count = returns_here d rows m numbers a moving v returns t s b (λ z. omega arith) in
      elim (none_or_some back d) [
        | inl none ↦ inl (λ x k.
            let out : next_component rows numbers s x ≢ get_or numbers s 0 = λ z. both_ways (back x) (none x k) (eq-eqb (next_component rows numbers s x) (get_or numbers s 0) z) in
            inr (r.falls s x b n k out, omega (arith, l.above s x b k out)))
        | inr y ↦
            let one : get_or returns s 0 ≡ 1 = omega (arith, count, few s, count_one back d y.0 y.1 y.2) in
            let same = eqb-true (next_component rows numbers s y.0) (get_or numbers s 0) y.2 in
            inr (
              y.0,
              y.1,
              rw same (omega arith),
              rw same (omega arith),
              omega (arith, l.turn s b, one),
              λ x k ne.
                  let out : next_component rows numbers s x ≢ get_or numbers s 0 = λ z. omega (arith, count, one, count_two back d x y.0 k y.1 ne (eq-eqb (next_component rows numbers s x) (get_or numbers s 0) z) y.2) in
                  inr (r.falls s x b n k out, omega (arith, one, l.above s x b k out)),
            )
      ]

  pub layered_rows : (rank : ℕ → ℕ) → AreRanks d rows moving numbers rank → IsLayered d (states_of rows) (unmarked moving) (λ q. rank (get_or numbers q 0)) (level_at numbers levels)
  layered_rows rank r = record {
    letters = omega (arith, m.machine.few);
    dead_stays = λ s x b k e. dead_stays_dead d (states_of rows) (unmarked moving) (reduced_rows d rows moving m v) s x b k e;
    below = λ s x b k. rw length-states_of (next_row-lt s x (rw length-states_of at b));
    least = λ s b e. r.least s (rw length-states_of at b) (live_row s e);
    most = λ s b. rw length-states_of (r.most s (rw length-states_of at b));
    step = λ s b e. layer rank r s (rw length-states_of at b) e;
  }

  module _ (heights tops : List ℕ) (h : AreLevels d rows numbers moving heights tops) where
    -- a row without cycles behind it is the head of its component
    head_of : (s : ℕ) → s < length rows → level_at numbers levels s ≡ 0 → 0 < level_at numbers heights s → (get_or moving s 0 ≡ 1)
        × ((level_at numbers heights s ≡ 1) ⊎ ((x : ℕ) × IsLetter d x × (level_at numbers levels (next_state (states_of rows) s x) ≡ 0) × (level_at numbers heights s ≡ level_at numbers heights (next_state (states_of rows) s x) + 1)))
    head_of s b e more =
        let head = h.headed (get_or numbers s 0) (a.small s b) more in
        let alone : get_or returns s 0 ≡ 0 = omega (arith, l.turn s b, e) in
        let r : s ≡ get_or tops (get_or numbers s 0) 0 = same_row d rows m numbers a moving v returns t s (get_or tops (get_or numbers s 0) 0) b head.below (sym head.inside) alone in
        let attained = rw (← r) at head.attained in
        elim (cases_order (get_or moving s 0) 0) [
          | inl still ↦ absurd (elim attained [
            | inl z ↦ omega (arith, z, still, more)
            | inr z ↦ z.2 (ap (λ q. get_or numbers q 0) (still_next d rows m s b ((v.right s b).0 still) z.0 z.1))
          ])
          | inr o ↦
              let moves : get_or moving s 0 ≡ 1 = omega (arith, v.small s, elim o as (λ _. 0 < get_or moving s 0) [ inl q ↦ absurd (omega arith) | inr q ↦ q ]) in (
                moves,
                elim attained [
                  | inl z ↦ inl (omega (arith, z, moves))
                  | inr z ↦ inr (z.0, z.1, omega (arith, l.above s z.0 b z.1 z.2, e), omega (arith, z.3, moves))
                ],
              )
        ]

    -- below the height of a row without cycles behind it some word leads to a live row
    pub live_words-below : (k s : ℕ) → s < length rows → level_at numbers levels s ≡ 0 → k < level_at numbers heights s → 1 ≤ live_words d (states_of rows) (unmarked moving) k s
    live_words-below zero s b e less = let q = head_of s b e less in rw (ne_eqb (get_or moving s 0) 0 (λ f. omega (arith, q.0, f))) (omega arith)
    live_words-below (suc k) s b e less =
        elim (head_of s b e (omega arith)).1 [
          | inl z ↦ absurd (omega arith)
          | inr z ↦
              let rest = live_words-below k (next_state (states_of rows) s z.0) (next_row-lt s z.0 b) z.2 (omega (arith, z.3, less)) in
              omega (arith, rest, sum_letters-one (λ x. live_words d (states_of rows) (unmarked moving) k (next_state (states_of rows) s x)) d z.0 z.1)
        ]

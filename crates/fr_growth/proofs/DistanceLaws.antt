-- A breadth-first search meets rows in rising order of their distances.
use Rattle.std.proofs.Common.{ℕ, zero, suc, ◌≡◌, ◌≢◌, ◌==◌, ◌+◌, ◌<◌, ◌≤◌, ◌⊎◌, inl, inr, ◌||◌, true, false, List, [], ◌∷◌, ◌++◌, length, set, get_or, replicate, refl, sym, ◌∙◌, ap, arith, length-append, eq-eqb}
use Rattle.std.proofs.lemmas.List.{get_or-replicate, get_or_past, length-replicate, get_or_append_left, get_or_push, length_push, get_or-set_same, get_or-set_other, length-set}
use Rattle.std.proofs.lemmas.Bool.{cases_lt, both_ways, eqb-true}
use Rattle.fr_model.specs.Words.{IsLetter, IsWord}
use Rattle.fr_model.specs.Automata.{next_state, state_after}
use Rattle.fr_model.proofs.TermLaws.{IsWord-append}
use Rattle.fr_machine.specs.declared.row.Row.{Row}
use Rattle.fr_machine.specs.Rows.{states_of}
use Rattle.fr_machine.specs.Minimal.{IsMinimal}
use Rattle.fr_growth.specs.Bits.{has_bit}
use Rattle.fr_growth.specs.Distances.{IsFar, value_at, AreDistances, IsSearch, IsMet}
use Rattle.fr_growth.proofs.BitLaws.{zero_words, has_bit-one, has_bit-zeros, rank_more}
use Rattle.fr_growth.proofs.RowLaws.{or_cases, or_left, or_right, auto_next}
use Rattle.fr_growth.proofs.WalkLaws.{state_after-append}

-- ---- the row alone
pub nought_at : (n u : ℕ) → ◌≡◌ {A = ℕ} (get_or (replicate {A = ℕ} n 0) u 0) 0
nought_at n u = elim (cases_lt u n) [ inl l ↦ get_or-replicate n u 0 0 l | inr g ↦ get_or_past (replicate {A = ℕ} n 0) u 0 (omega (arith, length-replicate {A = ℕ} n 0)) ]

pub search_none : (d : ℕ) (rows : List Row) (m : IsMinimal d rows) (from : ℕ) (values seen : List ℕ) → from < length rows → length values ≡ length rows → ((u : ℕ) → get_or values u 0 ≡ 0)
    → ((u : ℕ) → u < 1024 → has_bit seen u ≡ (has_bit zero_words u || u == from)) → IsSearch d rows from (from ∷ []) values seen 0 0
search_none d rows m from values seen b size nought put = record {
  size = size;
  first = (omega arith, refl);
  below = λ j l. rw (is j l) b;
  listed = λ u l e. (0, omega arith, sym (eqb-true u from (sym (has_bit-one seen from put u (omega (arith, m.small))) ∙ e)));
  met = λ j l. ap (has_bit seen) (is j l) ∙ met;
  real = λ j l. record { along = []; valid = tt; there = sym (is j l); exact = sym (nought (get_or (from ∷ []) j 0)) };
  start = nought from;
  depth = λ j l. omega (arith, nought (get_or (from ∷ []) j 0));
  rising = λ j k o l. omega (arith, nought (get_or (from ∷ []) j 0));
  near = λ j l k. omega (arith, nought (get_or (from ∷ []) j 0));
  closed = λ j y l k h. absurd (elim h [ inl q ↦ omega arith | inr q ↦ omega (arith, k.0, q.1) ]);
  few = omega (arith, rank_more zero_words seen from (length rows) m.small b (has_bit-zeros from) put);
}
  where
    is : (j : ℕ) → j < length (from ∷ []) → get_or (from ∷ []) j 0 ≡ from
    is zero l = refl
    is (suc j) l = absurd (omega arith)

    met : has_bit seen from ≡ true
    met = has_bit-one seen from put from (omega (arith, m.small)) ∙ eq-eqb from from refl

-- ---- a row is met
module _ (d : ℕ) (rows : List Row) (m : IsMinimal d rows) (from : ℕ) (order values seen : List ℕ) (i x t distance : ℕ) (h : IsSearch d rows from order values seen i x) (below : i < length order) (letter : IsLetter d (x + 1))
    (to : t ≡ next_state (states_of rows) (get_or order i 0) (x + 1)) (far : distance ≡ value_at order values i + 1) where
  -- it was there
  search_old : has_bit seen t ≡ true → IsSearch d rows from order values seen i (x + 1)
  search_old e =
      let tb : t < length rows = rw to (auto_next d rows m.machine (get_or order i 0) (x + 1) (h.below i below)) in
      let w = h.listed t tb e in
      let n = h.near w.0 w.1 below in
      let v : get_or values t 0 ≤ value_at order values i + 1 = omega (arith, n, ap (λ z. get_or values z 0) w.2) in
      record {
        size = h.size;
        first = h.first;
        below = h.below;
        listed = h.listed;
        met = h.met;
        real = h.real;
        start = h.start;
        depth = h.depth;
        rising = h.rising;
        near = h.near;
        few = h.few;
        closed = λ j y l k q. elim q [
          | inl z ↦ h.closed j y l k (inl z)
          | inr z ↦ elim (cases_lt y (x + 1)) [
            | inl less ↦ h.closed j y l k (inr (z.0, omega arith))
            | inr more ↦
                let same : y ≡ x + 1 = omega (arith, z.1) in
                rw (z.0, same, ← to) (e, v)
          ]
        ];
      }

  -- it is new
  module _ (order' values' seen' : List ℕ) (fresh : has_bit seen t ≡ false) (eo : order' ≡ order ++ t ∷ []) (ev : values' ≡ set values t distance) (es : (u : ℕ) → u < 1024 → has_bit seen' u ≡ (has_bit seen u || u == t)) where
    tb : t < length rows
    tb = rw to (auto_next d rows m.machine (get_or order i 0) (x + 1) (h.below i below))

    longer : length order' ≡ length order + 1
    longer = ap length eo ∙ length_push order t

    old_row : (j : ℕ) → j < length order → get_or order' j 0 ≡ get_or order j 0
    old_row j l = ap (λ z. get_or z j 0) eo ∙ get_or_append_left order (t ∷ []) 0 j l

    new_row : get_or order' (length order) 0 ≡ t
    new_row = ap (λ z. get_or z (length order) 0) eo ∙ get_or_push order t 0 (length order) refl

    not_t : (u : ℕ) → has_bit seen u ≡ true → u ≢ t
    not_t u e z = both_ways (has_bit seen t) fresh (ap (has_bit seen) (sym z) ∙ e)

    old_value : (u : ℕ) → u ≢ t → get_or values' u 0 ≡ get_or values u 0
    old_value u n = ap (λ z. get_or z u 0) ev ∙ get_or-set_other values t u distance 0 n

    new_value : get_or values' t 0 ≡ distance
    new_value = ap (λ z. get_or z t 0) ev ∙ get_or-set_same values t distance 0 (omega (arith, h.size, tb))

    old_far : (j : ℕ) → j < length order → value_at order' values' j ≡ value_at order values j
    old_far j l = ap (λ z. get_or values' z 0) (old_row j l) ∙ old_value (get_or order j 0) (not_t (get_or order j 0) (h.met j l))

    new_far : value_at order' values' (length order) ≡ distance
    new_far = ap (λ z. get_or values' z 0) new_row ∙ new_value

    cases : (j : ℕ) → j < length order' → (j < length order) ⊎ (j ≡ length order)
    cases j l = elim (cases_lt j (length order)) [ inl q ↦ inl q | inr q ↦ inr (omega (arith, longer)) ]

    seen_more : (u : ℕ) → u < 1024 → has_bit seen u ≡ true → has_bit seen' u ≡ true
    seen_more u l e = es u l ∙ or_left (has_bit seen u) (u == t) e

    small_t : t < 1024
    small_t = omega (arith, tb, m.small)

    seen_t : has_bit seen' t ≡ true
    seen_t = es t small_t ∙ or_right (has_bit seen t) (t == t) (eq-eqb t t refl)

    word_to : IsFar d rows from t distance
    word_to =
        let r = h.real i below in
        record {
          along = r.along ++ (x + 1) ∷ [];
          valid = IsWord-append d r.along ((x + 1) ∷ []) r.valid (letter, tt);
          there = state_after-append (states_of rows) from r.along ((x + 1) ∷ []) ∙ ap (λ z. next_state (states_of rows) z (x + 1)) r.there ∙ sym to;
          exact = omega (arith, length-append r.along ((x + 1) ∷ []), r.exact, far);
        }

    far_at : (j : ℕ) → j < length order' → (value_at order' values' j ≤ value_at order values i + 1) × (value_at order' values' j ≤ j)
    far_at j l = elim (cases j l) [
      | inl q ↦ (omega (arith, old_far j q, h.near j q below), omega (arith, old_far j q, h.depth j q))
      | inr q ↦ let f = rw (← q) at new_far in (omega (arith, f, far), omega (arith, f, far, h.depth i below, q, below))
    ]

    pub search_new : IsSearch d rows from order' values' seen' i (x + 1)
    search_new = record {
      size = ap length ev ∙ length-set values t distance ∙ h.size;
      first = (omega (arith, longer), old_row 0 h.first.0 ∙ h.first.1);
      below = λ j l. elim (cases j l) [ inl q ↦ rw (old_row j q) (h.below j q) | inr q ↦ rw (q, new_row) tb ];
      listed = λ u l e. elim (or_cases (has_bit seen u) (u == t) (sym (es u (omega (arith, l, m.small))) ∙ e)) [
        | inl q ↦ let w = h.listed u l q in (w.0, omega (arith, longer, w.1), old_row w.0 w.1 ∙ w.2)
        | inr q ↦ (length order, omega (arith, longer), new_row ∙ sym (eqb-true u t q))
      ];
      met = λ j l. elim (cases j l) [ inl q ↦ ap (has_bit seen') (old_row j q) ∙ seen_more (get_or order j 0) (omega (arith, h.below j q, m.small)) (h.met j q) | inr q ↦ rw (q, new_row) seen_t ];
      real = λ j l. elim (cases j l) [ inl q ↦ rw (old_far j q, old_row j q) (h.real j q) | inr q ↦ rw (q, new_far, new_row) word_to ];
      start = old_value from (not_t from (ap (has_bit seen) (sym h.first.1) ∙ h.met 0 h.first.0)) ∙ h.start;
      depth = λ j l. (far_at j l).1;
      rising = λ j k o l. elim (cases k l) [
        | inl q ↦ omega (arith, old_far j (omega arith), old_far k q, h.rising j k o q)
        | inr q ↦ let f = rw (← q) at new_far in omega (arith, f, far, (far_at j (omega (arith, l))).0)
      ];
      near = λ j l k. omega (arith, (far_at j l).0, old_far i below);
      closed = λ j y l k q.
          let jl : j < length order = elim q [ inl z ↦ omega (arith, below, z) | inr z ↦ omega (arith, below, z.0) ] in
          let step : (has_bit seen (next_state (states_of rows) (get_or order j 0) y) ≡ true) × (get_or values (next_state (states_of rows) (get_or order j 0) y) 0 ≤ value_at order values j + 1)
          → (has_bit seen' (next_state (states_of rows) (get_or order' j 0) y) ≡ true) × (get_or values' (next_state (states_of rows) (get_or order' j 0) y) 0 ≤ value_at order' values' j + 1) = λ z.
          let u = next_state (states_of rows) (get_or order j 0) y in
          let ub = auto_next d rows m.machine (get_or order j 0) y (h.below j jl) in
          rw (old_row j jl) (seen_more u (omega (arith, ub, m.small)) z.0, omega (arith, old_value u (not_t u z.0), z.1, old_far j jl, old_value (get_or order j 0) (not_t (get_or order j 0) (h.met j jl)))) in
          elim q [
            | inl z ↦ step (h.closed j y jl k (inl z))
            | inr z ↦ elim (cases_lt y (x + 1)) [
              | inl less ↦ step (h.closed j y jl k (inr (z.0, omega arith)))
              | inr more ↦
                  let same : y ≡ x + 1 = omega (arith, z.1) in
                  let v : get_or values' t 0 ≤ value_at order' values' i + 1 = omega (arith, new_value, far, old_far i below) in
                  rw (z.0, same, old_row i below, ← to) (seen_t, rw (old_row i below) at v)
            ]
          ];
      few = omega (arith, longer, h.few, rank_more seen seen' t (length rows) m.small tb fresh es);
    }

pub search_met : (d : ℕ) (rows : List Row) (m : IsMinimal d rows) (from : ℕ) (order values seen : List ℕ) (i x t distance : ℕ) → IsSearch d rows from order values seen i x → i < length order → IsLetter d (x + 1)
    → t ≡ next_state (states_of rows) (get_or order i 0) (x + 1) → distance ≡ value_at order values i + 1 → (order' values' seen' : List ℕ) → IsMet order values seen t distance order' values' seen'
    → IsSearch d rows from order' values' seen' i (x + 1) × (i < length order') × (get_or order' i 0 ≡ get_or order i 0) × (value_at order' values' i ≡ value_at order values i)
search_met d rows m from order values seen i x t distance h b k to far order' values' seen' met = elim met [
  | inl q ↦ rw (q.1, q.2, q.3) (search_old d rows m from order values seen i x t distance h b k to far q.0, b, refl, refl)
  | inr q ↦ (
    search_new d rows m from order values seen i x t distance h b k to far order' values' seen' q.0 q.1 q.2 q.3,
    omega (arith, b, longer d rows m from order values seen i x t distance h b k to far order' values' seen' q.0 q.1 q.2 q.3),
    old_row d rows m from order values seen i x t distance h b k to far order' values' seen' q.0 q.1 q.2 q.3 i b,
    old_far d rows m from order values seen i x t distance h b k to far order' values' seen' q.0 q.1 q.2 q.3 i b,
  )
]

-- all letters of a row were looked at
pub search_next : (d : ℕ) (rows : List Row) (from : ℕ) (order values seen : List ℕ) (i : ℕ) → i < length order → IsSearch d rows from order values seen i d → IsSearch d rows from order values seen (i + 1) 0
search_next d rows from order values seen i b h = record {
  size = h.size;
  first = h.first;
  below = h.below;
  listed = h.listed;
  met = h.met;
  real = h.real;
  start = h.start;
  depth = h.depth;
  rising = h.rising;
  near = λ j l k. omega (arith, h.near j l b, h.rising i (i + 1) (omega arith) k);
  closed = λ j y l k q. elim q [
    | inl z ↦ elim (cases_lt j i) [ inl less ↦ h.closed j y l k (inl less) | inr more ↦ h.closed j y l k (inr (omega arith, k.1)) ]
    | inr z ↦ absurd (omega (arith, k.0, z.1))
  ];
  few = h.few;
}

-- ---- no row is left
module _ (d : ℕ) (rows : List Row) (m : IsMinimal d rows) (from : ℕ) (order values seen : List ℕ) (i : ℕ) (h : IsSearch d rows from order values seen i 0) (end : length order ≤ i) where
  place_after : (w : List ℕ) (j : ℕ) → IsWord d w → j < length order → (k : ℕ) × (k < length order) × (get_or order k 0 ≡ state_after (states_of rows) (get_or order j 0) w) × (value_at order values k ≤ value_at order values j + length w)
  place_after [] j v l = (j, l, refl, omega arith)
  place_after (x ∷ w) j v l =
      let c = h.closed j x l v.0 (inl (omega (arith, end))) in
      let p = h.listed (next_state (states_of rows) (get_or order j 0) x) (auto_next d rows m.machine (get_or order j 0) x (h.below j l)) c.0 in
      let q = place_after w p.0 v.1 p.1 in
      (q.0, q.1, q.2 ∙ ap (λ z. state_after (states_of rows) z w) p.2, omega (arith, q.3, c.1, ap (λ z. get_or values z 0) p.2))

  pub search_done : AreDistances d rows from order values
  search_done = record {
    size = h.size;
    below = h.below;
    whole = λ w v. let q = place_after w 0 v h.first.0 in (q.0, q.1, q.2 ∙ ap (λ z. state_after (states_of rows) z w) h.first.1);
    least = λ w v.
        let q = place_after w 0 v h.first.0 in
        let e = ap (λ z. get_or values z 0) (q.2 ∙ ap (λ z. state_after (states_of rows) z w) h.first.1) in
        omega (arith, q.3, e, ap (λ z. get_or values z 0) h.first.1, h.start);
    real = h.real;
    rising = h.rising;
    step = λ j x l k. (h.closed j x l k (inl (omega (arith, end)))).1;
  }

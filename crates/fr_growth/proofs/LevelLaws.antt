-- Levels of components, as the rows are gone through in order.
use Rattle.std.proofs.Common.{ℕ, ◌≡◌, ◌≢◌, ◌+◌, ◌==◌, ◌<◌, ◌≤◌, ◌⊎◌, inl, inr, max, if◌then◌else◌, List, length, get_or, replicate, refl, sym, ◌∙◌, ap, arith, eq-eqb}
use Rattle.std.proofs.Math.ListN.{set}
use Rattle.std.proofs.lemmas.Bool.{cases_lt, cases_order, ne_eqb}
use Rattle.std.proofs.lemmas.List.{get_or-replicate, get_or_past, length-replicate, get_or-set_same, get_or-set_other, length-set}
use Rattle.fr_model.specs.Words.{IsLetter}
use Rattle.fr_machine.specs.declared.row.Row.{Row}
use Rattle.fr_growth.specs.Components.{AreComponents, AreInOrder}
use Rattle.fr_growth.specs.Levels.{next_component, IsLevelBelow, IsHead, AreLevels, IsRaised}

-- ---- the greatest level below a row, for the letters up to k
pub below_none : (rows : List Row) (numbers levels : List ℕ) (s : ℕ) → IsLevelBelow 0 rows numbers levels s 0
below_none rows numbers levels s = record { above = λ x l. absurd (omega (arith, l.0, l.1)); attained = inl refl }

pub below_more : (k : ℕ) (rows : List Row) (numbers levels : List ℕ) (s most level most' : ℕ) → IsLevelBelow k rows numbers levels s most
    → level ≡ (if next_component rows numbers s (k + 1) == get_or numbers s 0 then 0 else get_or levels (next_component rows numbers s (k + 1)) 0) → most' ≡ max most level → IsLevelBelow (k + 1) rows numbers levels s most'
below_more k rows numbers levels s most level most' b e f = record {
  above = λ x l ne. elim (cases_lt x (k + 1)) [
    | inl q ↦ omega (arith, f, b.above x (l.0, omega arith) ne)
    | inr q ↦
        let last : x ≡ k + 1 = omega (arith, l.1) in
        let ne' : next_component rows numbers s (k + 1) ≢ get_or numbers s 0 = rw last at ne in
        let here : level ≡ get_or levels (next_component rows numbers s (k + 1)) 0 = rw (ne_eqb (next_component rows numbers s (k + 1)) (get_or numbers s 0) ne') at e in
        rw last (omega (arith, f, here))
  ];
  attained = elim (cases_lt most level) [
    | inl q ↦ elim (cases_order (next_component rows numbers s (k + 1)) (get_or numbers s 0)) [
      | inl same ↦ absurd (let z : level ≡ 0 = rw (eq-eqb (next_component rows numbers s (k + 1)) (get_or numbers s 0) same) at e in omega arith)
      | inr o ↦
          let ne : next_component rows numbers s (k + 1) ≢ get_or numbers s 0 = elim o [ inl r ↦ (λ z. omega arith) | inr r ↦ (λ z. omega arith) ] in
          let here : level ≡ get_or levels (next_component rows numbers s (k + 1)) 0 = rw (ne_eqb (next_component rows numbers s (k + 1)) (get_or numbers s 0) ne) at e in
          inr (k + 1, (omega arith, omega arith), ne, omega (arith, f, here))
    ]
    | inr q ↦ elim b.attained [
      | inl z ↦ inl (omega (arith, f, z))
      | inr z ↦ inr (z.0, (z.1.0, omega (arith, z.1.1)), z.2, omega (arith, f, z.3))
    ]
  ];
}

-- ---- one level is raised
pub raised_to : (levels heads : List ℕ) (c level s : ℕ) → c < length levels → c < length heads → get_or levels c 0 < level → IsRaised levels heads c level s (set levels c level) (set heads c s)
raised_to levels heads c level s l h less = record {
  count = length-set levels c level;
  heads_count = length-set heads c s;
  others = λ k ne. (get_or-set_other levels c k level 0 ne, get_or-set_other heads c k s 0 ne);
  least = rw (get_or-set_same levels c level 0 l) (omega arith);
  more = rw (get_or-set_same levels c level 0 l) (omega arith);
  at = inr (get_or-set_same levels c level 0 l, get_or-set_same heads c s 0 h);
}

pub raised_not : (levels heads : List ℕ) (c level s : ℕ) → level ≤ get_or levels c 0 → IsRaised levels heads c level s levels heads
raised_not levels heads c level s l = record {
  count = refl;
  heads_count = refl;
  others = λ k ne. (refl, refl);
  least = l;
  more = omega arith;
  at = inl (refl, refl);
}

-- ---- levels, for the first i rows of the order
pub record LevelsTo (d : ℕ) (rows : List Row) (numbers order gains levels heads : List ℕ) (i : ℕ) : Type 0 where
  pub count : length levels ≡ length rows
  pub heads_count : length heads ≡ length rows
  pub low : (c : ℕ) → get_or levels c 0 ≤ c + 1
  pub turn : (j : ℕ) → j < i → get_or gains (get_or order j 0) 0 ≤ get_or levels (get_or numbers (get_or order j 0) 0) 0
  pub above : (j x : ℕ) → j < i → IsLetter d x → next_component rows numbers (get_or order j 0) x ≢ get_or numbers (get_or order j 0) 0
      → get_or levels (next_component rows numbers (get_or order j 0) x) 0 + get_or gains (get_or order j 0) 0 ≤ get_or levels (get_or numbers (get_or order j 0) 0) 0
  pub headed : (c : ℕ) → c < length rows → 0 < get_or levels c 0 → IsHead d rows numbers gains levels c (get_or heads c 0) × ((j : ℕ) × (j < i) × (get_or order j 0 ≡ get_or heads c 0))

pub levels_none : (d : ℕ) (rows : List Row) (numbers order gains levels heads : List ℕ) → levels ≡ replicate (length rows) 0 → length heads ≡ length rows → LevelsTo d rows numbers order gains levels heads 0
levels_none d rows numbers order gains levels heads e h = record {
  count = ap length e ∙ length-replicate {A = ℕ} (length rows) 0;
  heads_count = h;
  low = λ c. omega (arith, zeros c);
  turn = λ j l. absurd (omega arith);
  above = λ j x l. absurd (omega arith);
  headed = λ c l p. absurd (omega (arith, p, zeros c));
}
  where
    zeros : (c : ℕ) → get_or levels c 0 ≡ 0
    zeros c = elim (cases_lt c (length rows)) [
      | inl q ↦ ap (λ (z : List ℕ). get_or z c 0) e ∙ get_or-replicate (length rows) c 0 0 q
      | inr q ↦ get_or_past levels c 0 (omega (arith, ap length e, length-replicate {A = ℕ} (length rows) 0))
    ]

module _ (d : ℕ) (rows : List Row) (numbers order gains : List ℕ) (a : AreComponents d rows numbers) (o : AreInOrder (length rows) numbers order) (few : (s : ℕ) → get_or gains s 0 ≤ 1) where
  -- a row that came before stands in a component up to that of the row that comes now, and leads only below that
  leads_below : (i j x : ℕ) → j < i → i < length order → IsLetter d x → next_component rows numbers (get_or order j 0) x ≢ get_or numbers (get_or order j 0) 0
      → next_component rows numbers (get_or order j 0) x ≢ get_or numbers (get_or order i 0) 0
  leads_below i j x l b k ne e = omega (arith, o.rising i' i l' b, a.falls (get_or order j 0) x (o.below j (omega arith)) k, differ (next_component rows numbers (get_or order j 0) x) (get_or numbers (get_or order j 0) 0) ne, e)
    where
      i' : ℕ
      i' = j

      l' : j < i
      l' = l

      differ : (p q : ℕ) → p ≢ q → p ≤ q → p < q
      differ p q ne h = elim (cases_order p q) [ inl e ↦ absurd (ne e) | inr r ↦ elim r [ inl z ↦ z | inr z ↦ absurd (omega arith) ] ]

  module _ (i b level : ℕ) (levels heads levels' heads' : List ℕ) (l : i < length order) (h : LevelsTo d rows numbers order gains levels heads i) (below : IsLevelBelow d rows numbers levels (get_or order i 0) b)
      (is : level ≡ b + get_or gains (get_or order i 0) 0) (r : IsRaised levels heads (get_or numbers (get_or order i 0) 0) level (get_or order i 0) levels' heads') where
    s : ℕ
    s = get_or order i 0

    more : (c : ℕ) → get_or levels c 0 ≤ get_or levels' c 0
    more c = elim (cases_order c (get_or numbers (get_or order i 0) 0)) [
      | inl e ↦ rw e r.more
      | inr q ↦ omega (arith, (r.others c (elim q [ inl z ↦ (λ e. omega arith) | inr z ↦ (λ e. omega arith) ])).0)
    ]

    level_low : level ≤ get_or numbers (get_or order i 0) 0 + 1
    level_low = elim below.attained [
      | inl z ↦ omega (arith, is, few (get_or order i 0), z)
      | inr z ↦ omega (
        arith,
        is,
        few (get_or order i 0),
        z.3,
        h.low (next_component rows numbers (get_or order i 0) z.0),
        a.falls (get_or order i 0) z.0 (o.below i l) z.1,
        unequal (next_component rows numbers (get_or order i 0) z.0) (get_or numbers (get_or order i 0) 0) z.2,
      )
    ]
      where
        unequal : (p q : ℕ) → p ≢ q → (p < q) ⊎ (q < p)
        unequal p q ne = elim (cases_order p q) [ inl e ↦ absurd (ne e) | inr o ↦ o ]

    old_head : (c : ℕ) → c < length rows → get_or levels' c 0 ≡ get_or levels c 0 → get_or heads' c 0 ≡ get_or heads c 0 → 0 < get_or levels' c 0
        → IsHead d rows numbers gains levels' c (get_or heads' c 0) × ((j : ℕ) × (j < i + 1) × (get_or order j 0 ≡ get_or heads' c 0))
    old_head c lc e f p =
        let q = h.headed c lc (omega arith) in
        let j = q.1.0 in
        let at = q.1.2 in (
          record {
            below = rw f q.0.below;
            inside = ap (λ z. get_or numbers z 0) f ∙ q.0.inside;
            attained = rw (e, f) (elim q.0.attained [
              | inl z ↦ inl z
              | inr z ↦
                  let out : next_component rows numbers (get_or order j 0) z.0 ≢ get_or numbers (get_or order j 0) 0 = rw (at, q.0.inside) z.2 in
                  let ne = rw at at (leads_below i j z.0 q.1.1 l z.1 out) in
                  inr (z.0, z.1, z.2, rw ((r.others (next_component rows numbers (get_or heads c 0) z.0) ne).0) z.3)
            ]);
          },
          (j, omega (arith, q.1.1), at ∙ sym f),
        )

    pub levels_more : LevelsTo d rows numbers order gains levels' heads' (i + 1)
    levels_more = record {
      count = r.count ∙ h.count;
      heads_count = r.heads_count ∙ h.heads_count;
      low = λ c. elim (cases_order c (get_or numbers (get_or order i 0) 0)) [
        | inl e ↦ rw e (elim r.at [ inl z ↦ omega (arith, z.0, h.low (get_or numbers (get_or order i 0) 0)) | inr z ↦ omega (arith, z.0, level_low) ])
        | inr q ↦ omega (arith, (r.others c (elim q [ inl z ↦ (λ e. omega arith) | inr z ↦ (λ e. omega arith) ])).0, h.low c)
      ];
      turn = λ j lj. elim (cases_lt j i) [
        | inl q ↦ omega (arith, h.turn j q, more (get_or numbers (get_or order j 0) 0))
        | inr q ↦ let e : j ≡ i = omega arith in rw e (omega (arith, is, r.least))
      ];
      above = λ j x lj k ne. elim (cases_lt j i) [
        | inl q ↦ omega (arith, h.above j x q k ne, more (get_or numbers (get_or order j 0) 0), (r.others (next_component rows numbers (get_or order j 0) x) (leads_below i j x q l k ne)).0)
        | inr q ↦
            let e : j ≡ i = omega arith in
            let ne' = rw e at ne in
            rw e (omega (arith, is, r.least, below.above x k ne', (r.others (next_component rows numbers (get_or order i 0) x) ne').0))
      ];
      headed = λ c lc p. elim (cases_order c (get_or numbers (get_or order i 0) 0)) [
        | inl e ↦ elim r.at [
          | inl z ↦ old_head c lc (rw e z.0) (rw e z.1) p
          | inr z ↦ (
            record {
              below = rw (e, z.1) (o.below i l);
              inside = rw (e, z.1) refl;
              attained = rw (e, z.1, z.0) (elim below.attained [
                | inl y ↦ inl (omega (arith, is, y))
                | inr y ↦ inr (y.0, y.1, y.2, rw ((r.others (next_component rows numbers (get_or order i 0) y.0) y.2).0) (omega (arith, is, y.3)))
              ]);
            },
            (i, omega arith, rw (e, z.1) refl),
          )
        ]
        | inr q ↦
            let others = r.others c (elim q [ inl z ↦ (λ e. omega arith) | inr z ↦ (λ e. omega arith) ]) in
            old_head c lc others.0 others.1 p
      ];
    }

  pub levels_all : (levels heads : List ℕ) → LevelsTo d rows numbers order gains levels heads (length order) → AreLevels d rows numbers gains levels heads
  levels_all levels heads h = record {
    count = h.count;
    heads_count = h.heads_count;
    low = h.low;
    turn = λ s l. let w = o.whole s l in rw w.2 at (h.turn w.0 w.1);
    above = λ s x l k ne. let w = o.whole s l in rw w.2 at (h.above w.0 x w.1 k (rw w.2 ne));
    headed = λ c l p. (h.headed c l p).0;
  }

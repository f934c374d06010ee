-- The rows of two machines, and one row of each class.
use Rattle.std.proofs.Common.{ℕ, suc, ◌≡◌, ◌≢◌, ◌+◌, ◌-◌, ◌<◌, ◌≤◌, inl, inr, List, [], ◌∷◌, ◌++◌, length, drop, get_or, max, refl, sym, ◌∙◌, ap, subst, arith}
use Rattle.std.proofs.lemmas.List.{length_push, drop_more}
use Rattle.std.proofs.lemmas.Bool.{cases_lt}
use Rattle.fr_model.specs.Terms.{IsAlike}
use Rattle.fr_machine.specs.declared.row.Row.{Row}
use Rattle.fr_machine.specs.Rows.{row_term, IsRow, IsMachine, row_at}
use Rattle.fr_machine.proofs.RowLaws.{IsRow-filled, IsMachine-rows, row_valid}
use Rattle.fr_classes.specs.Numberings.{IsNumberedFrom}
use Rattle.fr_classes.specs.Classes.{AreClasses}
use Rattle.fr_nucleus.specs.Joining.{IsRenumbered, AreJoined, AreReduced}
use Rattle.fr_nucleus.proofs.NextLaws.{IsFilling, row_at_old, row_at_new, alike_rows, alike_perms, alike_nexts, row_zero, leads-lt}

pub IsRenumbered-filled : (f : ℕ → ℕ) (r q : Row) (x : ℕ) → q.perm ≡ r.perm → IsFilling (λ y n. n ≡ f (get_or r.next y 0)) q.next x → x ≡ length r.perm → IsRenumbered f r q
IsRenumbered-filled f r q x p h e = record {
  perm = p;
  width = h.width;
  nexts = λ y l. h.nexts y (omega (arith, l, e));
  zeros = λ y l b. h.zeros y (omega (arith, l, e)) b;
}

-- ---- the rows of two machines

-- the rows of the first, and some of the second behind them
pub record IsJoinPart (ms ns rows : List Row) (i : ℕ) : Type 0 where
  pub count : length rows ≡ length ms + i
  pub left : (s : ℕ) → s < length ms → row_at rows s ≡ row_at ms s
  pub right : (s : ℕ) → s < i → IsRenumbered (λ n. n + length ms) (row_at ns s) (row_at rows (length ms + s))

pub IsJoinPart-start : (ms ns rows : List Row) → rows ≡ ms → IsJoinPart ms ns rows 0
IsJoinPart-start ms ns rows e = record { count = omega (arith, ap length e); left = λ s l. ap (λ xs. row_at xs s) e; right = λ s l. absurd (omega arith) }

pub IsJoinPart-more : (ms ns rows rows' : List Row) (r q : Row) (i first : ℕ) → IsJoinPart ms ns rows i → r ≡ row_at ns i → first ≡ length ms → IsRenumbered (λ n. n + first) r q → rows' ≡ rows ++ q ∷ [] → IsJoinPart ms ns rows' (i + 1)
IsJoinPart-more ms ns rows rows' r q i first h e f g p = record {
  count = omega (arith, ap length p, length_push rows q, h.count);
  left = λ s l. row_at_old rows rows' q s p (omega (arith, h.count)) ∙ h.left s l;
  right = λ s l. elim (cases_lt s i) [
    | inl t ↦ rw (row_at_old rows rows' q (length ms + s) p (omega (arith, h.count))) (h.right s t)
    | inr t ↦
        let at : s ≡ i = omega arith in
        let new : row_at rows' (length ms + s) ≡ q = ap (row_at rows') (omega (arith, h.count, at)) ∙ row_at_new rows rows' q p in
        let G : ℕ → Row → Row → Type 0 = λ n a b. IsRenumbered (λ m. m + n) a b in
        rw (new, at, ← e, ← f) g
  ];
}

module _ (d : ℕ) (ms ns rows : List Row) (m : IsMachine d ms) (n : IsMachine d ns) (room : length ms + length ns ≤ 65536) (h : IsJoinPart ms ns rows (length ns)) where
  valid : (s : ℕ) → s < length rows → IsRow d (length rows) (row_at rows s)
  valid s l = elim (cases_lt s (length ms)) [
    | inl t ↦
        let r = row_valid d ms m s t in
        rw (h.left s t) (IsRow-filled d (length rows) (row_at ms s) m.letters (omega arith) r.permutes r.width
        (λ x k. omega (arith, leads-lt d ms m s x t k, h.count))
        (λ x a b. row_zero d (length ms) (row_at ms s) r x a b))
    | inr t ↦
        let i = s - length ms in
        let at : length ms + i ≡ s = omega arith in
        let il : i < length ns = omega (arith, h.count, at) in
        let r = row_valid d ns n i il in
        let q = h.right i il in
        rw at at (IsRow-filled d (length rows) (row_at rows (length ms + i)) m.letters (omega arith) (rw q.perm r.permutes) q.width
        (λ x k. omega (arith, q.nexts x (omega (arith, r.permutes.degree)), leads-lt d ns n i x il k, h.count))
        (λ x a b. q.zeros x (omega (arith, r.permutes.degree)) b))
  ]

  pub IsMachine-joined : IsMachine d rows
  IsMachine-joined = IsMachine-rows d rows m.few m.letters (omega (arith, h.count, m.least)) (omega (arith, h.count)) valid

  pub AreJoined-from : AreJoined ms ns rows
  AreJoined-from = record {
    count = h.count;
    left = λ s l. alike_rows d rows ms IsMachine-joined m (λ i j. (i ≡ j) × (j < length ms))
        (λ i j r. (
          omega (arith, r.0, r.1, h.count),
          r.1,
          ap (λ q. q.perm) (ap (row_at rows) r.0 ∙ h.left j r.1),
          λ x k. (ap (λ q. get_or q.next x 0) (ap (row_at rows) r.0 ∙ h.left j r.1), leads-lt d ms m j x r.1 k),
        )) s s (refl, l);
    right = λ s l. alike_rows d rows ns IsMachine-joined n (λ i j. (i ≡ length ms + j) × (j < length ns))
        (λ i j r.
        let q = h.right j r.1 in
        let e : row_at rows i ≡ row_at rows (length ms + j) = ap (row_at rows) r.0 in (
          omega (arith, r.0, r.1, h.count),
          r.1,
          ap (λ a. a.perm) e ∙ q.perm,
          λ x k. (omega (arith, ap (λ a. get_or a.next x 0) e, q.nexts x (omega (arith, (row_valid d ns n j r.1).permutes.degree))), leads-lt d ns n j x r.1 k),
        )) (length ms + s) s (refl, l);
  }

-- ---- one row of each class

-- the first rows of the classes of some rows
pub record IsReducedPart (rows : List Row) (of : List ℕ) (others : List Row) (s : ℕ) : Type 0 where
  pub few : length others ≤ s
  pub numbered : IsNumberedFrom (length others) (drop s of)
  pub within : (t : ℕ) → t < s → get_or of t 0 < length others
  pub made : (c : ℕ) → c < length others → (t : ℕ) × (t < length rows) × (get_or of t 0 ≡ c) × IsRenumbered (λ n. get_or of n 0) (row_at rows t) (row_at others c)

pub IsReducedPart-start : (rows : List Row) (of : List ℕ) (others : List Row) → AreClasses rows of → others ≡ [] → IsReducedPart rows of others 0
IsReducedPart-start rows of others a e = record {
  few = omega (arith, ap length e);
  numbered = rw e a.first;
  within = λ t l. absurd (omega arith);
  made = λ c l. absurd (omega (arith, ap length e));
}

-- the class of the next row is known, or it is the next one
next_class : (c s : ℕ) (of : List ℕ) → s < length of → IsNumberedFrom c (drop s of) → (get_or of s 0 ≤ c) × IsNumberedFrom (max c (suc (get_or of s 0))) (drop (s + 1) of)
next_class c s of l h = let P : List ℕ → Type 0 = IsNumberedFrom c in subst P (drop_more of s 0 l) h

pub IsReducedPart-new : (rows : List Row) (of : List ℕ) (others others' : List Row) (s : ℕ) (r q : Row) → IsReducedPart rows of others s → s < length rows → length of ≡ length rows → get_or of s 0 ≡ length others → r ≡ row_at rows s → IsRenumbered (λ n. get_or of n 0) r q → others' ≡ others ++ q ∷ [] → IsReducedPart rows of others' (s + 1)
IsReducedPart-new rows of others others' s r q h l w e f g p =
    let size : length others' ≡ suc (length others) = omega (arith, ap length p, length_push others q) in
    let n = next_class (length others) s of (omega (arith, w)) h.numbered in
    let top : max (length others) (suc (get_or of s 0)) ≡ length others' = omega (arith, e, size) in
    record {
      few = omega (arith, size, h.few);
      numbered = rw top at n.1;
      within = λ t k. elim (cases_lt t s) [ inl a ↦ omega (arith, h.within t a, size) | inr a ↦ (let at : t ≡ s = omega arith in omega (arith, ap (λ i. get_or of i 0) at, e, size)) ];
      made = λ c k. elim (cases_lt c (length others)) [
        | inl a ↦ let x = h.made c a in (x.0, x.1, x.2, rw (row_at_old others others' q c p a) x.3)
        | inr a ↦
            let at : c ≡ length others = omega (arith, size) in
            (s, l, e ∙ sym at, rw (at, row_at_new others others' q p, ← f) g)
      ];
    }

pub IsReducedPart-pass : (rows : List Row) (of : List ℕ) (others : List Row) (s : ℕ) → IsReducedPart rows of others s → s < length rows → length of ≡ length rows → get_or of s 0 ≢ length others → IsReducedPart rows of others (s + 1)
IsReducedPart-pass rows of others s h l w e =
    let n = next_class (length others) s of (omega (arith, w)) h.numbered in
    let top : max (length others) (suc (get_or of s 0)) ≡ length others = omega (arith, e, n.0) in
    record {
      few = omega (arith, h.few);
      numbered = rw top at n.1;
      within = λ t k. elim (cases_lt t s) [ inl a ↦ h.within t a | inr a ↦ (let at : t ≡ s = omega arith in omega (arith, ap (λ i. get_or of i 0) at, e, n.0)) ];
      made = h.made;
    }

module _ (d : ℕ) (rows : List Row) (of : List ℕ) (others : List Row) (m : IsMachine d rows) (a : AreClasses rows of) (h : IsReducedPart rows of others (length rows)) where
  next_made : (c : ℕ) (l : c < length others) (x : ℕ) → x < d → get_or (row_at others c).next x 0 ≡ get_or of (get_or (row_at rows (h.made c l).0).next x 0) 0
  next_made c l x k =
      let t = h.made c l in
      t.3.nexts x (omega (arith, (row_valid d rows m t.0 t.1).permutes.degree))

  valid_reduced : (c : ℕ) → c < length others → IsRow d (length others) (row_at others c)
  valid_reduced c l =
      let t = h.made c l in
      let r = row_valid d rows m t.0 t.1 in
      IsRow-filled d (length others) (row_at others c) m.letters (omega arith) (rw t.3.perm r.permutes) t.3.width
      (λ x k. rw (next_made c l x k) (h.within (get_or (row_at rows t.0).next x 0) (leads-lt d rows m t.0 x t.1 k)))
      (λ x b g. t.3.zeros x (omega (arith, r.permutes.degree)) g)

  pub some_reduced : 1 ≤ length others
  some_reduced = omega (arith, h.within 0 (omega (arith, m.least)))

  pub IsMachine-reduced : IsMachine d others
  IsMachine-reduced = IsMachine-rows d others m.few m.letters some_reduced (omega (arith, h.few, m.most)) valid_reduced

  same_class : (s t : ℕ) → s < length rows → t < length rows → IsAlike (row_term rows s) (row_term rows t) → get_or of s 0 ≡ get_or of t 0
  same_class s t l k e = (a.alike s t l k).1 e

  pub AreReduced-from : AreReduced rows of others
  AreReduced-from = record {
    alike = λ s l. (h.within s l, alike_rows d others rows IsMachine-reduced m (λ c t. (t < length rows) × (c ≡ get_or of t 0)) step (get_or of s 0) s (l, refl));
    onto = λ c l. let t = h.made c l in (t.0, t.1, t.2);
  }
    where
      step : (c t : ℕ) → (t < length rows) × (c ≡ get_or of t 0) → (c < length others) × (t < length rows) × ((row_at others c).perm ≡ (row_at rows t).perm) × ((x : ℕ) → x < d → (get_or (row_at rows t).next x 0 < length rows) × (get_or (row_at others c).next x 0 ≡ get_or of (get_or (row_at rows t).next x 0) 0))
      step c t r =
          let l : c < length others = omega (arith, r.1, h.within t r.0) in
          let u = h.made c l in
          let e : IsAlike (row_term rows u.0) (row_term rows t) = (a.alike u.0 t u.1 r.0).0 (u.2 ∙ r.1) in (
            l,
            r.0,
            u.3.perm ∙ alike_perms d rows rows m m u.0 t u.1 r.0 e,
            λ x k.
                let nt = leads-lt d rows m t x r.0 k in
                let nu = leads-lt d rows m u.0 x u.1 k in
                (nt, next_made c l x k ∙ same_class _ _ nu nt (alike_nexts d rows rows m m u.0 t u.1 r.0 e x k)),
          )

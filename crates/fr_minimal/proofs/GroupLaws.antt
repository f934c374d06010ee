-- What a row that is put under another does to the groups of rows.
use Rattle.std.proofs.Common.{ℕ, zero, suc, ◌≡◌, ◌≢◌, ◌+◌, ◌<◌, ◌≤◌, inl, inr, cond, List, length, get_or, refl, sym, ◌∙◌, ap, subst, arith, eqb, eq-eqb, get_or-set_other, get_or-set_same}
use Rattle.std.proofs.Math.ListN.{set, length-set}
use Rattle.std.proofs.lemmas.Bool.{cases_eq, ne_eqb}
use Rattle.fr_minimal.specs.Groups.{AreParents, IsShared, IsRearranged, joins_below, joins}

-- whether a row is not the least of its group, as a number
abbrev one_more : List ℕ → ℕ → ℕ
one_more ps n = cond (eqb (get_or ps n 0) n) 0 1

one_more-other : (ps : List ℕ) (r v n : ℕ) → n ≢ r → one_more (set ps r v) n ≡ one_more ps n
one_more-other ps r v n e = ap (λ k. cond (eqb k n) 0 1) (get_or-set_other ps r n v 0 e)

one_more-above : (ps : List ℕ) (n : ℕ) → get_or ps n 0 ≢ n → one_more ps n ≡ 1
one_more-above ps n e = ap (λ b. cond b 0 1) (ne_eqb (get_or ps n 0) n e)

one_more-least : (ps : List ℕ) (n : ℕ) → get_or ps n 0 ≡ n → one_more ps n ≡ 0
one_more-least ps n e = ap (λ b. cond b 0 1) (eq-eqb (get_or ps n 0) n e)

-- a row that is under another is put under a third
joins_below-moved : (ps : List ℕ) (r v n : ℕ) → r < length ps → get_or ps r 0 ≢ r → v ≢ r → joins_below (set ps r v) n ≡ joins_below ps n
joins_below-moved ps r v zero l e f = refl
joins_below-moved ps r v (suc n) l e f =
    let rest = joins_below-moved ps r v n l e f in
    let here : one_more (set ps r v) n ≡ one_more ps n = elim (cases_eq n r) [
      | inl same ↦
          let P : ℕ → Type 0 = λ k. one_more (set ps r v) k ≡ one_more ps k in
          subst P (sym same) (one_more-above (set ps r v) r (λ g. f (sym (get_or-set_same ps r v 0 l) ∙ g)) ∙ sym (one_more-above ps r e))
      | inr other ↦ one_more-other ps r v n other
    ] in
    omega (arith, rest, here)

-- the least row of a group is put under another
joins_below-before : (ps : List ℕ) (r v n : ℕ) → n ≤ r → joins_below (set ps r v) n ≡ joins_below ps n
joins_below-before ps r v zero l = refl
joins_below-before ps r v (suc n) l = omega (arith, joins_below-before ps r v n (omega arith), one_more-other ps r v n (omega arith))

joins_below-joined : (ps : List ℕ) (r v n : ℕ) → r < length ps → r < n → get_or ps r 0 ≡ r → v ≢ r → joins_below (set ps r v) n ≡ joins_below ps n + 1
joins_below-joined ps r v zero l m e f = absurd (omega arith)
joins_below-joined ps r v (suc n) l m e f = elim (cases_eq n r) [
  | inl same ↦
      let rest = joins_below-before ps r v n (omega arith) in
      let P : ℕ → Type 0 = λ k. one_more (set ps r v) k ≡ one_more ps k + 1 in
      let here = subst P (sym same) (one_more-above (set ps r v) r (λ g. f (sym (get_or-set_same ps r v 0 l) ∙ g)) ∙ ap (λ k. k + 1) (sym (one_more-least ps r e))) in
      omega (arith, rest, here)
  | inr other ↦ omega (arith, joins_below-joined ps r v n l (omega arith) e f, one_more-other ps r v n other)
]

pub joins-moved : (ps : List ℕ) (r v : ℕ) → r < length ps → get_or ps r 0 ≢ r → v ≢ r → joins (set ps r v) ≡ joins ps
unfolding joins
joins-moved ps r v l e f = ap (joins_below (set ps r v)) (length-set ps r v) ∙ joins_below-moved ps r v (length ps) l e f

pub joins-joined : (ps : List ℕ) (r v : ℕ) → r < length ps → get_or ps r 0 ≡ r → v ≢ r → joins (set ps r v) ≡ joins ps + 1
unfolding joins
joins-joined ps r v l e f = ap (joins_below (set ps r v)) (length-set ps r v) ∙ joins_below-joined ps r v (length ps) l l e f

-- rows that are alone
joins_below-alone : (ps : List ℕ) (n : ℕ) → ((i : ℕ) → i < n → get_or ps i 0 ≡ i) → joins_below ps n ≡ 0
joins_below-alone ps zero h = refl
joins_below-alone ps (suc n) h = omega (arith, joins_below-alone ps n (λ i l. h i (omega arith)), one_more-least ps n (h n (omega arith)))

pub joins-alone : (ps : List ℕ) → ((i : ℕ) → i < length ps → get_or ps i 0 ≡ i) → joins ps ≡ 0
unfolding joins
joins-alone ps h = joins_below-alone ps (length ps) h

-- the first row is the least of its group
one_more-le : (ps : List ℕ) (n : ℕ) → one_more ps n ≤ 1
one_more-le ps n = elim (cases_eq (get_or ps n 0) n) [ inl e ↦ omega (arith, one_more-least ps n e) | inr e ↦ omega (arith, one_more-above ps n e) ]

joins_below-lt : (ps : List ℕ) (n : ℕ) → get_or ps 0 0 ≡ 0 → joins_below ps (suc n) ≤ n
joins_below-lt ps zero e = omega (arith, one_more-least ps 0 e)
joins_below-lt ps (suc n) e = omega (arith, joins_below-lt ps n e, one_more-le ps (suc n))

pub joins-lt : (ps : List ℕ) → AreParents ps → 0 < length ps → joins ps < length ps
unfolding joins
joins-lt ps h l = bounded (length ps) refl
  where
    bounded : (n : ℕ) → length ps ≡ n → joins_below ps (length ps) < length ps
    bounded zero e = absurd (omega arith)
    bounded (suc n) e = omega (arith, joins_below-lt ps n (omega (arith, h 0 l)), ap (joins_below ps) e)

-- what is shared stays so where a row is put under one with its image
pub IsShared-moved : (ps : List ℕ) (r v : ℕ) (image : ℕ → List ℕ) → r < length ps → IsShared ps image → image v ≡ image r → IsShared (set ps r v) image
IsShared-moved ps r v image l h e i il = elim (cases_eq i r) [
  | inl same ↦ let P : ℕ → Type 0 = λ k. image (get_or (set ps r v) k 0) ≡ image k in subst P (sym same) (ap image (get_or-set_same ps r v 0 l) ∙ e)
  | inr other ↦ ap image (get_or-set_other ps r i v 0 other) ∙ h i (omega (arith, length-set ps r v))
]

pub AreParents-moved : (ps : List ℕ) (r v : ℕ) → r < length ps → AreParents ps → v ≤ r → AreParents (set ps r v)
AreParents-moved ps r v l h m i il = elim (cases_eq i r) [
  | inl same ↦ let P : ℕ → Type 0 = λ k. get_or (set ps r v) k 0 ≤ k in subst P (sym same) (omega (arith, get_or-set_same ps r v 0 l))
  | inr other ↦ omega (arith, get_or-set_other ps r i v 0 other, h i (omega (arith, length-set ps r v)))
]

pub IsRearranged-refl : (ps : List ℕ) → IsRearranged ps ps
IsRearranged-refl ps = record { size = refl; least = λ i l e. e; shared = λ image h. h; joins = refl }

pub IsRearranged-trans : (ps qs rs : List ℕ) → IsRearranged ps qs → IsRearranged qs rs → IsRearranged ps rs
IsRearranged-trans ps qs rs g h = record {
  size = h.size ∙ g.size;
  least = λ i l e. h.least i (omega (arith, g.size)) (g.least i l e);
  shared = λ image f. h.shared image (g.shared image f);
  joins = h.joins ∙ g.joins;
}

-- a row comes nearer to the least row of its group
pub IsRearranged-nearer : (ps : List ℕ) (r : ℕ) → r < length ps → AreParents ps → get_or ps r 0 ≢ r → IsRearranged ps (set ps r (get_or ps (get_or ps r 0) 0))
IsRearranged-nearer ps r l h e =
    let p = get_or ps r 0 in
    let up : p ≤ r = h r l in
    let pl : p < length ps = omega arith in
    let above : get_or ps p 0 ≤ p = h p pl in
    let v = get_or ps p 0 in
    let apart : v ≢ r = λ f. e (omega arith) in
    record {
      size = length-set ps r v;
      least = λ i il f. let other : i ≢ r = λ g. e (ap (λ k. get_or ps k 0) (sym g) ∙ f ∙ g) in get_or-set_other ps r i v 0 other ∙ f;
      shared = λ image f. IsShared-moved ps r v image l f (f p pl ∙ f r l);
      joins = joins-moved ps r v l e apart;
    }

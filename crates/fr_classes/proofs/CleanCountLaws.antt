-- How many clean rows a class has, when one row goes to another class or becomes dirty.
use Rattle.std.proofs.Common.{ℕ, zero, suc, ◌≡◌, ◌≢◌, ◌+◌, ◌<◌, ◌≤◌, inl, inr, Bool, true, false, cond, List, [], ◌∷◌, length, set, get_or, replicate, refl, ap, arith, eqb}
use Rattle.std.specs.List.{All}
use Rattle.std.proofs.lemmas.List.Elements.{All-head, All-tail}
use Rattle.std.proofs.lemmas.Bool.{cases_eq, eq-eqb}
use Rattle.std.proofs.lemmas.Bool.Decides.{eqb_tells}
use Rattle.fr_classes.specs.Refinement.{clean_count}

-- counts of clean rows
abbrev pub one_if : Bool → ℕ
one_if b = cond b 1 0

pub clean_count-place : (c m : ℕ) (xs : List ℕ) (bs : List Bool) (s : ℕ) → s < length xs → s < length bs → get_or bs s true ≡ true → clean_count c (set xs s m) (set bs s false) ≡ clean_count c xs bs + one_if (eqb m c)
clean_count-place c m [] bs s h g e = absurd (omega arith)
clean_count-place c m (x ∷ xs) [] s h g e = absurd (omega arith)
clean_count-place c m (x ∷ xs) (true ∷ bs) zero h g e = omega arith
clean_count-place c m (x ∷ xs) (false ∷ bs) zero h g e = cc
clean_count-place c m (x ∷ xs) (b ∷ bs) (suc s) h g e = let r = clean_count-place c m xs bs s (omega arith) (omega arith) e in omega (arith, r)

pub clean_count-mark : (c : ℕ) (xs : List ℕ) (bs : List Bool) (s : ℕ) → s < length xs → s < length bs → get_or bs s true ≡ false → clean_count c xs (set bs s true) + one_if (eqb (get_or xs s 0) c) ≡ clean_count c xs bs
clean_count-mark c [] bs s h g e = absurd (omega arith)
clean_count-mark c (x ∷ xs) [] s h g e = absurd (omega arith)
clean_count-mark c (x ∷ xs) (true ∷ bs) zero h g e = cc
clean_count-mark c (x ∷ xs) (false ∷ bs) zero h g e = omega arith
clean_count-mark c (x ∷ xs) (b ∷ bs) (suc s) h g e = let r = clean_count-mark c xs bs s (omega arith) (omega arith) e in omega (arith, r)

pub eqb_apart : (a b : ℕ) → a ≢ b → eqb a b ≡ false
eqb_apart a b n = elim (eqb_tells a b) [ inl h ↦ absurd (n h.1) | inr h ↦ h.0 ]

pub eqb-same : (c : ℕ) → one_if (eqb c c) ≡ 1
eqb-same c = ap one_if (eq-eqb c c refl)

pub clean_count-pos : (c : ℕ) (xs : List ℕ) (bs : List Bool) (s : ℕ) → s < length xs → s < length bs → get_or bs s true ≡ false → get_or xs s 0 ≡ c → 0 < clean_count c xs bs
clean_count-pos c [] bs s h g e f = absurd (omega arith)
clean_count-pos c (x ∷ xs) [] s h g e f = absurd (omega arith)
clean_count-pos c (x ∷ xs) (true ∷ bs) zero h g e f = cc
clean_count-pos c (x ∷ xs) (false ∷ bs) zero h g e f = let w : one_if (eqb x c) ≡ 1 = rw f (eqb-same c) in omega (arith, w)
clean_count-pos c (x ∷ xs) (b ∷ bs) (suc s) h g e f = let r = clean_count-pos c xs bs s (omega arith) (omega arith) e f in omega (arith, r)

pub clean_count-none : (c n : ℕ) (xs : List ℕ) (bs : List Bool) → All (λ x. x < n) xs → n ≤ c → clean_count c xs bs ≡ 0
clean_count-none c n [] bs a h = refl
clean_count-none c n (x ∷ xs) [] a h = refl
clean_count-none c n (x ∷ xs) (true ∷ bs) a h = omega (arith, clean_count-none c n xs bs (All-tail (λ x. x < n) x xs a) h)
clean_count-none c n (x ∷ xs) (false ∷ bs) a h =
    let l : x < n = All-head (λ x. x < n) x xs a in
    let w : eqb x c ≡ false = eqb_apart x c (λ e. omega arith) in
    let v : one_if (eqb x c) ≡ 0 = ap one_if w in
    omega (arith, v, clean_count-none c n xs bs (All-tail (λ x. x < n) x xs a) h)

pub clean_count-some : (c : ℕ) (xs : List ℕ) (bs : List Bool) → 0 < clean_count c xs bs → (t : ℕ) × (t < length xs) × (get_or xs t 0 ≡ c) × (get_or bs t true ≡ false)
clean_count-some c [] bs h = absurd (omega arith)
clean_count-some c (x ∷ xs) [] h = absurd (omega arith)
clean_count-some c (x ∷ xs) (true ∷ bs) h = let w = clean_count-some c xs bs (omega arith) in (suc w.0, omega (arith, w.1), w.2, w.3)
clean_count-some c (x ∷ xs) (false ∷ bs) h = elim (cases_eq x c) [
  | inl e ↦ (0, omega arith, e, refl)
  | inr n ↦ let v : one_if (eqb x c) ≡ 0 = ap one_if (eqb_apart x c n) in
      let w = clean_count-some c xs bs (omega (arith, v)) in
      (suc w.0, omega (arith, w.1), w.2, w.3)
]

pub clean_count-le : (c : ℕ) (xs : List ℕ) (bs : List Bool) → clean_count c xs bs ≤ length xs
clean_count-le c [] bs = omega arith
clean_count-le c (x ∷ xs) [] = omega arith
clean_count-le c (x ∷ xs) (true ∷ bs) = omega (arith, clean_count-le c xs bs)
clean_count-le c (x ∷ xs) (false ∷ bs) = elim (cases_eq x c) [
  | inl e ↦ let w : one_if (eqb x c) ≡ 1 = rw e (eqb-same c) in omega (arith, w, clean_count-le c xs bs)
  | inr n ↦ let v : one_if (eqb x c) ≡ 0 = ap one_if (eqb_apart x c n) in omega (arith, v, clean_count-le c xs bs)
]

pub clean_count-dirty : (c n : ℕ) (xs : List ℕ) → clean_count c xs (replicate n true) ≡ 0
clean_count-dirty c n [] = refl
clean_count-dirty c zero (x ∷ xs) = refl
clean_count-dirty c (suc n) (x ∷ xs) = omega (arith, clean_count-dirty c n xs)

-- A permutation with one letter more, and how many images are smaller than a letter.
use Rattle.std.proofs.Common.{ℕ, zero, suc, ◌≡◌, ◌+◌, ◌*◌, ◌<◌, ◌≤◌, ◌⊎◌, inl, inr, true, false, cond, nat_lt, eqb, List, [], ◌∷◌, ◌++◌, length, take, drop, map, get_or, set, refl, sym, ◌∙◌, ap, arith}
use Rattle.std.specs.List.{IsDistinct, list_any, AllByRecursion}
use Rattle.std.proofs.lemmas.Bool.{cases_lt, cases_eq, cases_order, eq-eqb, ne_eqb, le-leb, lt-leb, lt-ltb, le-ltb}
use Rattle.std.proofs.lemmas.Bool.Decides.{nat_tests}
use Rattle.std.proofs.lemmas.List.{get_or_default, length-map}
use Rattle.std.proofs.lemmas.List.Edits.{map_over_more}
use Rattle.std.proofs.lemmas.Map.Keys.{IsDistinct-head, IsDistinct-tail, IsDistinct-cons}
use Rattle.fr_model.specs.Words.{IsLetter, IsWord}
use Rattle.fr_model.specs.Permutations.{IsPermutation}
use Rattle.fr_model.specs.Ranks.{smaller_in, factorial, rank}
use Rattle.fr_model.proofs.PermutationLaws.{full}
use Rattle.fr_alphabet.specs.Insertion.{raised, in_front}

-- the two cases of making room
pub raised-above : (x y : ℕ) → x ≤ y → raised x y ≡ y + 1
raised-above x y h = ap (λ b. cond b (y + 1) y) (le-leb x y h)

pub raised-below : (x y : ℕ) → y < x → raised x y ≡ y
raised-below x y h = ap (λ b. cond b (y + 1) y) (lt-leb x y h)

-- one image more has made room
pub raised_more_above : (x : ℕ) (xs ys : List ℕ) (i : ℕ) → i < length xs → i < length ys → x ≤ get_or ys i 0 → ys ≡ map (raised x) (take i xs) ++ drop i xs → set ys i (get_or ys i 0 + 1) ≡ map (raised x) (take (i + 1) xs) ++ drop (i + 1) xs
raised_more_above x xs ys i h g l e =
    let y = get_or ys i 0 in
    ap (set ys i) (sym (raised-above x y l)) ∙ map_over_more (raised x) xs ys i y h e (get_or_default ys i 0 y g)

pub raised_more_below : (x : ℕ) (xs ys : List ℕ) (i : ℕ) → i < length xs → i < length ys → get_or ys i 0 < x → ys ≡ map (raised x) (take i xs) ++ drop i xs → set ys i (get_or ys i 0) ≡ map (raised x) (take (i + 1) xs) ++ drop (i + 1) xs
raised_more_below x xs ys i h g l e =
    let y = get_or ys i 0 in
    ap (set ys i) (sym (raised-below x y l)) ∙ map_over_more (raised x) xs ys i y h e (get_or_default ys i 0 y g)

-- making room keeps the order
nat_lt-raised : (x z y : ℕ) → nat_lt (raised x z) (raised x y) ≡ nat_lt z y
nat_lt-raised x z y = grind (arith, nat_tests)

-- and leaves as many below the new image
nat_lt-raised_self : (x z : ℕ) → nat_lt (raised x z) x ≡ nat_lt z x
nat_lt-raised_self x z = grind (arith, nat_tests)

eqb-raised : (x z y : ℕ) → eqb (raised x z) (raised x y) ≡ eqb z y
eqb-raised x z y = grind (arith, nat_tests)

eqb_self-raised : (x z : ℕ) → eqb x (raised x z) ≡ false
eqb_self-raised x z = grind (arith, nat_tests)

smaller_in-map_raised : (x y : ℕ) (ys : List ℕ) → smaller_in (raised x y) (map (raised x) ys) ≡ smaller_in y ys
smaller_in-map_raised x y [] = refl
smaller_in-map_raised x y (z ∷ zs) = rw (nat_lt-raised x z y, smaller_in-map_raised x y zs) refl

smaller_in_self-map_raised : (x : ℕ) (ys : List ℕ) → smaller_in x (map (raised x) ys) ≡ smaller_in x ys
smaller_in_self-map_raised x [] = refl
smaller_in_self-map_raised x (z ∷ zs) = rw (nat_lt-raised_self x z, smaller_in_self-map_raised x zs) refl

rank-map_raised : (x : ℕ) (ys : List ℕ) → rank (map (raised x) ys) ≡ rank ys
rank-map_raised x [] = refl
rank-map_raised x (y ∷ ys) = rw (smaller_in-map_raised x y ys, length-map ys (raised x), rank-map_raised x ys) refl

-- a permutation with one letter more
letters-map_raised : (n x : ℕ) (p : List ℕ) → IsWord n p → IsWord (suc n) (map (raised x) p)
letters-map_raised n x [] w = tt
letters-map_raised n x (y ∷ ys) w = (letter, letters-map_raised n x ys w.1)
  where
    letter : IsLetter (suc n) (raised x y)
    letter = elim (cases_lt y x) [
      | inl h ↦ rw (raised-below x y h) (w.0.0, omega (arith, w.0.1))
      | inr h ↦ rw (raised-above x y h) (omega arith, omega (arith, w.0.1))
    ]

apart-map_raised : (x y : ℕ) (ys : List ℕ) → AllByRecursion (λ z. eqb y z ≡ false) ys → AllByRecursion (λ z. eqb (raised x y) z ≡ false) (map (raised x) ys)
apart-map_raised x y [] a = tt
apart-map_raised x y (z ∷ zs) a = (eqb-raised x y z ∙ a.0, apart-map_raised x y zs a.1)

apart_self-map_raised : (x : ℕ) (ys : List ℕ) → AllByRecursion (λ z. eqb x z ≡ false) (map (raised x) ys)
apart_self-map_raised x [] = tt
apart_self-map_raised x (z ∷ zs) = (eqb_self-raised x z, apart_self-map_raised x zs)

distinct-map_raised : (x : ℕ) (ys : List ℕ) → IsDistinct eqb ys → IsDistinct eqb (map (raised x) ys)
distinct-map_raised x [] s = s
distinct-map_raised x (y ∷ ys) s = IsDistinct-cons eqb (raised x y) (map (raised x) ys) (apart-map_raised x y ys (IsDistinct-head eqb y ys s)) (distinct-map_raised x ys (IsDistinct-tail eqb y ys s))

pub IsPermutation-in_front : (n x : ℕ) (p : List ℕ) → IsPermutation n p → IsLetter (suc n) x → IsPermutation (suc n) (in_front x p)
IsPermutation-in_front n x p s l = record {
  degree = ap suc (length-map p (raised x) ∙ s.degree);
  letters = (l, letters-map_raised n x p s.letters);
  distinct = IsDistinct-cons eqb x (map (raised x) p) (apart_self-map_raised x p) (distinct-map_raised x p s.distinct);
}

-- how often z stands in the list
abbrev times : ℕ → List ℕ → ℕ
times z [] = 0
times z (y ∷ ys) = cond (eqb z y) (suc (times z ys)) (times z ys)

times_absent : (z : ℕ) (ys : List ℕ) → AllByRecursion (λ y. eqb z y ≡ false) ys → times z ys ≡ 0
times_absent z [] a = refl
times_absent z (y ∷ ys) a = rw (a.0) (times_absent z ys a.1)

times_present : (z : ℕ) (ys : List ℕ) → IsDistinct eqb ys → list_any (eqb z) ys ≡ true → times z ys ≡ 1
times_present z [] s h = cc
times_present z (y ∷ ys) s h = elim (cases_eq z y) [
  | inl e ↦ rw (eq-eqb z y e) (ap suc (times_absent z ys (rw (← e) at (IsDistinct-head eqb y ys s))))
  | inr n ↦ let f : eqb z y ≡ false = ne_eqb z y n in rw f (times_present z ys (IsDistinct-tail eqb y ys s) (rw f at h))
]

smaller_in-suc : (z : ℕ) (ys : List ℕ) → smaller_in (suc z) ys ≡ smaller_in z ys + times z ys
smaller_in-suc z [] = refl
smaller_in-suc z (y ∷ ys) = step (smaller_in-suc z ys) (cases_order y z)
  where
    step : smaller_in (suc z) ys ≡ smaller_in z ys + times z ys → (y ≡ z) ⊎ ((y < z) ⊎ (z < y)) → smaller_in (suc z) (y ∷ ys) ≡ smaller_in z (y ∷ ys) + times z (y ∷ ys)
    step r (inl e) = rw (lt-ltb y (suc z) (omega arith), le-ltb y z (omega arith), eq-eqb z y (sym e)) (omega arith)
    step r (inr (inl h)) = rw (lt-ltb y (suc z) (omega arith), lt-ltb y z h, ne_eqb z y (λ e. omega arith)) (omega arith)
    step r (inr (inr h)) = rw (le-ltb y (suc z) (omega arith), le-ltb y z (omega arith), ne_eqb z y (λ e. omega arith)) r

smaller_in_one : (d : ℕ) (p : List ℕ) → IsWord d p → smaller_in 1 p ≡ 0
smaller_in_one d [] w = refl
smaller_in_one d (y ∷ ys) w = rw (le-ltb y 1 w.0.0) (smaller_in_one d ys w.1)

-- below a letter there are as many images as letters
pub smaller_in-IsPermutation : (d : ℕ) (p : List ℕ) (x : ℕ) → IsPermutation d p → x ≤ d → smaller_in (suc x) p ≡ x
smaller_in-IsPermutation d p zero s h = smaller_in_one d p s.letters
smaller_in-IsPermutation d p (suc x) s h =
    smaller_in-suc (suc x) p ∙ omega (arith, smaller_in-IsPermutation d p x s (omega arith), times_present (suc x) p s.distinct (full d p (suc x) s (omega arith, h)))

pub rank-in_front : (n x : ℕ) (p : List ℕ) → IsPermutation n p → x ≤ n → rank (in_front (suc x) p) ≡ x * factorial n + rank p
rank-in_front n x p s h = rw (smaller_in_self-map_raised (suc x) p, smaller_in-IsPermutation n p x s h, length-map p (raised (suc x)), s.degree, rank-map_raised (suc x) p) refl

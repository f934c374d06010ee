-- The walk along a cycle: it comes back to where it began.
use Rattle.std.proofs.Common.{ℕ, zero, suc, ◌≡◌, ◌≢◌, ◌+◌, ◌<◌, ◌≤◌, inl, inr, Bool, true, false, not, cond, nat_le, eqb, List, [], ◌∷◌, length, take, refl, sym, ◌∙◌, ap, arith}
use Rattle.std.specs.Prelude.{◌==◌, ◌&&◌}
use Rattle.std.specs.List.{IsDistinct, list_any, list_all, AllByRecursion, before_first, position_or_len}
use Rattle.std.proofs.lemmas.Bool.{cases_Bool, cases_eq, or_cases, or_parts, or_right, eq-eqb, ne_eqb, eqb-true, le-leb}
use Rattle.std.proofs.lemmas.Map.Keys.{IsDistinct-cons}
use Rattle.std.proofs.lemmas.Map.Steps.{length-le_from_distinct_below}
use Rattle.fr_model.specs.Words.{IsLetter}
use Rattle.fr_model.specs.Permutations.{IsPermutation, image, preimage}
use Rattle.fr_model.proofs.PermutationLaws.{image-IsLetter, preimage-image}
use Rattle.fr_alphabet.specs.Cycles.{iterates, path}

length-iterates : (p : List ℕ) (n y : ℕ) → length (iterates p n y) ≡ n
length-iterates p zero y = refl
length-iterates p (suc n) y = ap suc (length-iterates p n (image p y))

letters-iterates : (d : ℕ) (p : List ℕ) (n y q : ℕ) → IsPermutation d p → IsLetter d y → list_any (eqb q) (iterates p n y) ≡ true → IsLetter d q
letters-iterates d p zero y q s l h = cc
letters-iterates d p (suc n) y q s l h = elim (or_cases (eqb q y) (list_any (eqb q) (iterates p n (image p y))) h) [
  | inl e ↦ rw (eqb-true q y e) l
  | inr m ↦ letters-iterates d p n (image p y) q s (image-IsLetter d p y s l) m
]

-- a step more meets what fewer steps meet
met_more : (p : List ℕ) (n x y : ℕ) → list_any (eqb x) (iterates p n y) ≡ true → list_any (eqb x) (iterates p (suc n) y) ≡ true
met_more p zero x y h = cc
met_more p (suc n) x y h = elim (or_cases (eqb x y) (list_any (eqb x) (iterates p n (image p y))) h) [
  | inl e ↦ rw e refl
  | inr m ↦ or_right (eqb x y) (list_any (eqb x) (iterates p (suc n) (image p y))) (met_more p n x (image p y) m)
]

unmet_less : (p : List ℕ) (n x y : ℕ) → list_any (eqb x) (iterates p (suc n) y) ≡ false → list_any (eqb x) (iterates p n y) ≡ false
unmet_less p n x y h = elim (cases_Bool (list_any (eqb x) (iterates p n y))) [
  | inl t ↦ let m = met_more p n x y t in cc
  | inr f ↦ f
]

eqb-image : (d : ℕ) (p : List ℕ) (x y : ℕ) → IsPermutation d p → eqb (image p x) (image p y) ≡ eqb x y
eqb-image d p x y s = elim (cases_eq x y) [
  | inl e ↦ eq-eqb _ _ (ap (image p) e) ∙ sym (eq-eqb x y e)
  | inr n ↦ ne_eqb _ _ (λ e. n (sym (preimage-image d p x s) ∙ ap (preimage p) e ∙ preimage-image d p y s)) ∙ sym (ne_eqb x y n)
]

-- x's image meets what x meets, a step later
met-image : (d : ℕ) (p : List ℕ) (n x y : ℕ) → IsPermutation d p → list_any (eqb (image p x)) (iterates p n (image p y)) ≡ list_any (eqb x) (iterates p n y)
met-image d p zero x y s = refl
met-image d p (suc n) x y s = rw (eqb-image d p x y s, met-image d p n x (image p y) s) refl

apart_from_unmet : (x : ℕ) (ys : List ℕ) → list_any (eqb x) ys ≡ false → AllByRecursion (λ y. eqb x y ≡ false) ys
apart_from_unmet x [] h = tt
apart_from_unmet x (y ∷ ys) h = let r = or_parts (eqb x y) (list_any (eqb x) ys) h in (r.0, apart_from_unmet x ys r.1)

-- as long as x does not come back, its images differ
distinct-iterates : (d : ℕ) (p : List ℕ) (n x : ℕ) → IsPermutation d p → list_any (eqb x) (iterates p n (image p x)) ≡ false → IsDistinct eqb (iterates p (suc n) x)
unfolding IsDistinct
distinct-iterates d p zero x s h = (tt, tt)
distinct-iterates d p (suc n) x s h =
    (apart_from_unmet x (iterates p (suc n) (image p x)) h, distinct-iterates d p n (image p x) s (met-image d p n x (image p x) s ∙ unmet_less p n x (image p x) h))

zero_unmet : (d : ℕ) (p : List ℕ) (n y : ℕ) → IsPermutation d p → IsLetter d y → list_any (eqb 0) (iterates p n y) ≡ false
zero_unmet d p n y s l = elim (cases_Bool (list_any (eqb 0) (iterates p n y))) [
  | inl t ↦ let z = letters-iterates d p n y 0 s l t in absurd (omega (arith, z.0))
  | inr f ↦ f
]

-- a letter comes back within as many steps as there are letters: else it and its images would be too many letters
comes_back : (d : ℕ) (p : List ℕ) (x : ℕ) → IsPermutation d p → IsLetter d x → list_any (eqb x) (iterates p d (image p x)) ≡ true
comes_back d p x s l = elim (cases_Bool (list_any (eqb x) (iterates p d (image p x)))) [
  | inl t ↦ t
  | inr f ↦
      let all : List ℕ = iterates p (suc d) x in
      let apart : IsDistinct eqb (0 ∷ all) = IsDistinct-cons eqb 0 all (apart_from_unmet 0 all (zero_unmet d p (suc d) x s l)) (distinct-iterates d p d x s f) in
      let below : (q : ℕ) → list_any (eqb q) (0 ∷ all) ≡ true → q < suc d =
      λ q h. elim (or_cases (eqb q 0) (list_any (eqb q) all) h) [
        | inl z ↦ omega (arith, eqb-true q 0 z)
        | inr m ↦ let k = letters-iterates d p (suc d) x q s l m in omega (arith, k.1)
      ] in
      let most : length (0 ∷ all) ≤ suc d = length-le_from_distinct_below (0 ∷ all) (suc d) apart below in
      absurd (omega (arith, length-iterates p (suc d) x))
]

-- y is a letter from which x comes
pub record IsOnPath (p : List ℕ) (x y : ℕ) : Type 0 where
  pub letter : IsLetter (length p) y
  pub comes : list_any (eqb x) (iterates p (length p) y) ≡ true

pub IsOnPath-image : (p : List ℕ) (x : ℕ) → IsPermutation (length p) p → IsLetter (length p) x → IsOnPath p x (image p x)
IsOnPath-image p x s l = record { letter = image-IsLetter (length p) p x s l; comes = comes_back (length p) p x s l }

step_on : (d : ℕ) (p : List ℕ) (n x y : ℕ) → n ≡ d → x ≢ y → list_any (eqb x) (iterates p n y) ≡ true → list_any (eqb x) (iterates p n (image p y)) ≡ true
step_on d p zero x y e n h = cc
step_on d p (suc m) x y e n h = let f : eqb x y ≡ false = ne_eqb x y n in met_more p m x (image p y) (rw f at h)

pub IsOnPath-next : (p : List ℕ) (x y : ℕ) → IsPermutation (length p) p → x ≢ y → IsOnPath p x y → IsOnPath p x (image p y)
IsOnPath-next p x y s n o = record { letter = image-IsLetter (length p) p y s o.letter; comes = step_on (length p) p (length p) x y refl n o.comes }

before_first-cons : (test : ℕ → Bool) (x : ℕ) (xs : List ℕ) → before_first test (x ∷ xs) ≡ cond (test x) [] (x ∷ before_first test xs)
before_first-cons test x xs = by (test x)
  where
    by : (b : Bool) → take (cond (not b) (1 + position_or_len test xs) 0) (x ∷ xs) ≡ cond b [] (x ∷ before_first test xs)
    by true = refl
    by false = let e : 1 + position_or_len test xs ≡ suc (position_or_len test xs) = omega arith in ap (λ n. take n (x ∷ xs)) e

before_first_at : (test : ℕ → Bool) (x : ℕ) (xs : List ℕ) → test x ≡ true → before_first test (x ∷ xs) ≡ []
before_first_at test x xs t = before_first-cons test x xs ∙ ap (λ b. cond b [] (x ∷ before_first test xs)) t

before_first_past : (test : ℕ → Bool) (x : ℕ) (xs : List ℕ) → test x ≡ false → before_first test (x ∷ xs) ≡ x ∷ before_first test xs
before_first_past test x xs f = before_first-cons test x xs ∙ ap (λ b. cond b [] (x ∷ before_first test xs)) f

flip_eqb : (x y : ℕ) → x ≢ y → (y == x) ≡ false
flip_eqb x y n = ne_eqb y x (λ e. n (sym e))

-- what comes after x does not matter
before_first_more : (p : List ℕ) (n x y : ℕ) → list_any (eqb x) (iterates p n y) ≡ true → before_first (λ z. z == x) (iterates p (suc n) y) ≡ before_first (λ z. z == x) (iterates p n y)
before_first_more p zero x y h = cc
before_first_more p (suc n) x y h = elim (cases_eq x y) [
  | inl e ↦
      let t : (y == x) ≡ true = eq-eqb y x (sym e) in
      before_first_at (λ z. z == x) y (iterates p (suc n) (image p y)) t ∙ sym (before_first_at (λ z. z == x) y (iterates p n (image p y)) t)
  | inr m ↦
      let f : eqb x y ≡ false = ne_eqb x y m in
      let g : (y == x) ≡ false = flip_eqb x y m in
      before_first_past (λ z. z == x) y (iterates p (suc n) (image p y)) g
      ∙ ap (λ l. y ∷ l) (before_first_more p n x (image p y) (rw f at h))
      ∙ sym (before_first_past (λ z. z == x) y (iterates p n (image p y)) g)
]

path_step : (p : List ℕ) (n x y : ℕ) → x ≢ y → list_any (eqb x) (iterates p n y) ≡ true → before_first (λ z. z == x) (iterates p n y) ≡ y ∷ before_first (λ z. z == x) (iterates p n (image p y))
path_step p zero x y m h = cc
path_step p (suc n) x y m h =
    let f : eqb x y ≡ false = ne_eqb x y m in
    let g : (y == x) ≡ false = flip_eqb x y m in
    before_first_past (λ z. z == x) y (iterates p n (image p y)) g ∙ ap (λ l. y ∷ l) (sym (before_first_more p n x (image p y) (rw f at h)))

-- a letter on the path, and the path from its image on
pub path-next : (p : List ℕ) (x y : ℕ) → x ≢ y → IsOnPath p x y → path p x y ≡ y ∷ path p x (image p y)
path-next p x y m o = path_step p (length p) x y m o.comes

path_end : (p : List ℕ) (n x : ℕ) → before_first (λ z. z == x) (iterates p n x) ≡ []
path_end p zero x = refl
path_end p (suc n) x = before_first_at (λ z. z == x) x (iterates p n (image p x)) (eq-eqb x x refl)

-- the path ends at x
pub path-here : (p : List ℕ) (x y : ℕ) → x ≡ y → path p x y ≡ []
path-here p x y e = rw (← e) (path_end p (length p) x)

-- the test of one cycle, letter by letter
pub least-next : (p : List ℕ) (x y : ℕ) → x < y → IsOnPath p x y → list_all (nat_le x) (path p x (image p y)) ≡ list_all (nat_le x) (path p x y)
least-next p x y h o = sym (ap (list_all (nat_le x)) (path-next p x y (λ e. omega arith) o) ∙ ap (λ b. b && list_all (nat_le x) (path p x (image p y))) (le-leb x y (omega arith)))

-- a step shortens the path
pub path-shorter : (p : List ℕ) (x y : ℕ) → x ≢ y → IsOnPath p x y → length (path p x (image p y)) < length (path p x y)
path-shorter p x y n o = omega (arith, ap length (path-next p x y n o))

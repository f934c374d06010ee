-- What a permutation does to letters: image and preimage undo each other.
use Rattle.std.proofs.Common.{ℕ, zero, suc, ◌≡◌, ◌≢◌, ◌+◌, ◌<◌, ◌≤◌, ◌⊎◌, ◌||◌, inl, inr, Bool, true, false, cond, eqb, List, [], ◌∷◌, length, map, get_or, refl, sym, ◌∙◌, ap, arith}
use Rattle.std.specs.List.{IsDistinct, list_any, AllByRecursion}
use Rattle.std.proofs.lemmas.Bool.{cases_Bool, cases_lt, or_cases, eqb-true, eqb-false, eq-eqb, ne_eqb, cases_eq}
use Rattle.std.proofs.lemmas.List.{get_or_past, get_or_default, get_or-map, length-map}
use Rattle.std.proofs.lemmas.List.Folds.{list_any_at}
use Rattle.std.proofs.lemmas.Map.Keys.{IsDistinct-head, IsDistinct-tail, IsDistinct-cons}
use Rattle.std.proofs.lemmas.Map.Steps.{length-le_from_distinct_below}
use Rattle.fr_model.specs.Words.{IsLetter, IsWord}
use Rattle.fr_model.specs.Permutations.{IsPermutation, image, preimage, place_from, numbers_from, identity_permutation, composite, inverse_permutation}

-- a number that does not stand in the list keeps its place
pub absent_place : (k : ℕ) (p : List ℕ) (y : ℕ) → list_any (eqb y) p ≡ false → place_from k p y ≡ y
absent_place k [] y h = refl
absent_place k (i ∷ is) y h = elim (eqb y i) as (λ b. (b || list_any (eqb y) is) ≡ false → cond b k (place_from (suc k) is y) ≡ y) [ true ↦ λ e. cc | false ↦ λ e. absent_place (suc k) is y e ] h

place_from_here : (k : ℕ) (is : List ℕ) (y i : ℕ) → y ≡ i → place_from k (i ∷ is) y ≡ k
place_from_here k is y i e = ap (λ b. cond b k (place_from (suc k) is y)) (eq-eqb y i e)

place_from_past : (k : ℕ) (is : List ℕ) (y i : ℕ) → y ≢ i → place_from k (i ∷ is) y ≡ place_from (suc k) is y
place_from_past k is y i ne = ap (λ b. cond b k (place_from (suc k) is y)) (ne_eqb y i ne)

-- a number that stands in the list is found there
pub present_place : (k : ℕ) (p : List ℕ) (y : ℕ) → list_any (eqb y) p ≡ true → (i : ℕ) × (i < length p) × (place_from k p y ≡ k + i) × (get_or p i y ≡ y)
present_place k [] y h = cc
present_place k (i ∷ is) y h = elim (cases_eq y i) [
  | inl e ↦ (0, omega arith, rw place_from_here (omega arith), sym e)
  | inr ne ↦
      let here : eqb y i ≡ false = ne_eqb y i ne in
      let r = present_place (suc k) is y (rw here at h) in
      (suc r.0, omega arith, place_from_past k is y i ne ∙ r.2 ∙ omega arith, r.3)
]

-- what stands in the list, its place says
pub present_at : (p : List ℕ) (i d : ℕ) → i < length p → list_any (eqb (get_or p i d)) p ≡ true
present_at p i d h = list_any_at (eqb (get_or p i d)) p i d h (eq-eqb _ _ refl)

apart_at : (y : ℕ) (ys : List ℕ) (i d : ℕ) → AllByRecursion (λ z. eqb y z ≡ false) ys → i < length ys → eqb y (get_or ys i d) ≡ false
apart_at y [] i d a h = absurd (omega arith)
apart_at y (z ∷ zs) zero d a h = a.0
apart_at y (z ∷ zs) (suc i) d a h = apart_at y zs i d a.1 (omega arith)

-- where no number stands twice, each is found at its place
place_of : (k : ℕ) (p : List ℕ) (i d : ℕ) → IsDistinct eqb p → i < length p → place_from k p (get_or p i d) ≡ k + i
place_of k [] i d s h = absurd (omega arith)
place_of k (y ∷ ys) zero d s h = place_from_here k ys y y refl ∙ omega arith
place_of k (y ∷ ys) (suc i) d s h =
    let ne : get_or ys i d ≢ y = λ e. eqb-false y (get_or ys i d) (apart_at y ys i d (IsDistinct-head eqb y ys s) (omega arith)) (sym e) in
    place_from_past k ys (get_or ys i d) y ne ∙ place_of (suc k) ys i d (IsDistinct-tail eqb y ys s) (omega arith) ∙ omega arith

-- the letters of a list that is no word
pub letter_at : (d : ℕ) (p : List ℕ) (i e : ℕ) → IsWord d p → i < length p → IsLetter d (get_or p i e)
letter_at d [] i e w h = absurd (omega arith)
letter_at d (x ∷ xs) zero e w h = w.0
letter_at d (x ∷ xs) (suc i) e w h = letter_at d xs i e w.1 (omega arith)

pub letter_in : (d : ℕ) (p : List ℕ) (y : ℕ) → IsWord d p → list_any (eqb y) p ≡ true → IsLetter d y
letter_in d p y w h =
    let r = present_place 0 p y h in
    let l = letter_at d p r.0 y w r.1 in
    rw r.3 at l

or_false : (a b : Bool) → (a || b) ≡ false → (a ≡ false) × (b ≡ false)
or_false true b h = cc
or_false false b h = (refl, h)

apart_from_none : (y : ℕ) (p : List ℕ) → list_any (eqb y) p ≡ false → AllByRecursion (λ z. eqb y z ≡ false) p
apart_from_none y [] h = tt
apart_from_none y (z ∷ zs) h = let r = or_false (eqb y z) (list_any (eqb y) zs) h in (r.0, apart_from_none y zs r.1)

zero_apart : (d : ℕ) (p : List ℕ) → IsWord d p → AllByRecursion (λ z. eqb 0 z ≡ false) p
zero_apart d [] w = tt
zero_apart d (z ∷ zs) w = (ne_eqb 0 z (λ e. omega (arith, w.0.0)), zero_apart d zs w.1)

-- a permutation holds each letter: 0, the letter and the images would be too many different numbers up to d
pub full : (d : ℕ) (p : List ℕ) (y : ℕ) → IsPermutation d p → IsLetter d y → list_any (eqb y) p ≡ true
full d p y s l = elim (cases_Bool (list_any (eqb y) p)) [
  | inl e ↦ e
  | inr e ↦
      let apart : IsDistinct eqb (0 ∷ y ∷ p) = IsDistinct-cons eqb 0 (y ∷ p) (zero_apart d (y ∷ p) (l, s.letters)) (IsDistinct-cons eqb y p (apart_from_none y p e) s.distinct) in
      let below : (q : ℕ) → list_any (eqb q) (0 ∷ y ∷ p) ≡ true → q < suc d =
      λ q h. elim (or_cases (eqb q 0) (list_any (eqb q) (y ∷ p)) h) [
        | inl z ↦ omega (arith, eqb-true q 0 z)
        | inr m ↦ let k = letter_in d (y ∷ p) q (l, s.letters) m in omega (arith, k.1)
      ] in
      let most : length (0 ∷ y ∷ p) ≤ suc d = length-le_from_distinct_below (0 ∷ y ∷ p) (suc d) apart below in
      absurd (omega (arith, s.degree))
]

-- a letter's image is a letter
pub image-IsLetter : (d : ℕ) (p : List ℕ) (x : ℕ) → IsPermutation d p → IsLetter d x → IsLetter d (image p x)
image-IsLetter d p zero s l = absurd (omega arith)
image-IsLetter d p (suc k) s l = letter_at d p k (suc k) s.letters (omega (arith, s.degree))

-- a number that is no letter stays
pub image_past : (d : ℕ) (p : List ℕ) (x : ℕ) → IsPermutation d p → ¬ IsLetter d x → image p x ≡ x
image_past d p zero s n = refl
image_past d p (suc k) s n = elim (cases_lt k d) [
  | inl h ↦ absurd (n (omega arith, omega arith))
  | inr h ↦ get_or_past p k (suc k) (omega (arith, s.degree))
]

pub preimage_past : (d : ℕ) (p : List ℕ) (x : ℕ) → IsPermutation d p → ¬ IsLetter d x → preimage p x ≡ x
preimage_past d p x s n = elim (cases_Bool (list_any (eqb x) p)) [
  | inl e ↦ absurd (n (letter_in d p x s.letters e))
  | inr e ↦ absent_place 1 p x e
]

pub preimage-IsLetter : (d : ℕ) (p : List ℕ) (y : ℕ) → IsPermutation d p → IsLetter d y → IsLetter d (preimage p y)
preimage-IsLetter d p y s l =
    let r = present_place 1 p y (full d p y s l) in
    let e = r.2 in
    rw e (omega (arith, s.degree, r.1), omega (arith, s.degree, r.1))

pub letter_or_not : (d x : ℕ) → IsLetter d x ⊎ ¬ IsLetter d x
letter_or_not d x = elim (cases_lt x 1) [
  | inl h ↦ inr (λ l. omega arith)
  | inr h ↦ elim (cases_lt d x) [ inl g ↦ inr (λ l. omega arith) | inr g ↦ inl (omega arith, omega arith) ]
]

-- image and preimage undo each other, at each number
pub preimage-image : (d : ℕ) (p : List ℕ) (x : ℕ) → IsPermutation d p → preimage p (image p x) ≡ x
preimage-image d p zero s = preimage_past d p zero s (λ l. omega arith)
preimage-image d p (suc k) s = elim (cases_lt k d) [
  | inl h ↦ place_of 1 p k (suc k) s.distinct (omega (arith, s.degree)) ∙ omega arith
  | inr h ↦ let n : ¬ IsLetter d (suc k) = λ l. omega arith in rw (image_past d p (suc k) s n) (preimage_past d p (suc k) s n)
]

pub image-preimage : (d : ℕ) (p : List ℕ) (y : ℕ) → IsPermutation d p → image p (preimage p y) ≡ y
image-preimage d p y s = elim (letter_or_not d y) [
  | inl l ↦
      let r = present_place 1 p y (full d p y s l) in
      let e : preimage p y ≡ suc r.0 = r.2 ∙ omega arith in
      rw e (get_or_default p r.0 (suc r.0) y r.1 ∙ r.3)
  | inr n ↦ rw (preimage_past d p y s n) (image_past d p y s n)
]

-- a list of different letters that a map without collisions sends to letters
pub IsWord-map : (d : ℕ) (f : ℕ → ℕ) → ((x : ℕ) → IsLetter d x → IsLetter d (f x)) → (xs : List ℕ) → IsWord d xs → IsWord d (map f xs)
IsWord-map d f h [] w = tt
IsWord-map d f h (x ∷ xs) w = (h x w.0, IsWord-map d f h xs w.1)

apart-map : (f g : ℕ → ℕ) → ((x : ℕ) → g (f x) ≡ x) → (y : ℕ) (xs : List ℕ) → AllByRecursion (λ z. eqb y z ≡ false) xs → AllByRecursion (λ z. eqb (f y) z ≡ false) (map f xs)
apart-map f g h y [] a = tt
apart-map f g h y (x ∷ xs) a = (ne_eqb (f y) (f x) (λ e. eqb-false y x a.0 (sym (h y) ∙ ap g e ∙ h x)), apart-map f g h y xs a.1)

pub IsDistinct-map : (f g : ℕ → ℕ) → ((x : ℕ) → g (f x) ≡ x) → (xs : List ℕ) → IsDistinct eqb xs → IsDistinct eqb (map f xs)
IsDistinct-map f g h [] s = s
IsDistinct-map f g h (x ∷ xs) s = IsDistinct-cons eqb (f x) (map f xs) (apart-map f g h x xs (IsDistinct-head eqb x xs s)) (IsDistinct-map f g h xs (IsDistinct-tail eqb x xs s))

IsPermutation-map : (d : ℕ) (f g : ℕ → ℕ) → ((x : ℕ) → g (f x) ≡ x) → ((x : ℕ) → IsLetter d x → IsLetter d (f x)) → (p : List ℕ) → IsPermutation d p → IsPermutation d (map f p)
IsPermutation-map d f g h l p s = record {
  degree = length-map p f ∙ s.degree;
  letters = IsWord-map d f l p s.letters;
  distinct = IsDistinct-map f g h p s.distinct;
}

-- the image under a list of images, each sent on by f
image-map : (d : ℕ) (f : ℕ → ℕ) (p : List ℕ) → length p ≡ d → ((x : ℕ) → ¬ IsLetter d x → f x ≡ x) → (x : ℕ) → IsLetter d x → image (map f p) x ≡ f (image p x)
image-map d f p e h zero l = absurd (omega arith)
image-map d f p e h (suc k) l = get_or-map f p k (suc k) (suc k) (omega arith)

pub length-numbers_from : (k n : ℕ) → length (numbers_from k n) ≡ n
length-numbers_from k zero = refl
length-numbers_from k (suc n) = ap suc (length-numbers_from (suc k) n)

pub get_or-numbers_from : (k n i d : ℕ) → i < n → get_or (numbers_from k n) i d ≡ k + i
get_or-numbers_from k zero i d h = absurd (omega arith)
get_or-numbers_from k (suc n) zero d h = omega arith
get_or-numbers_from k (suc n) (suc i) d h = get_or-numbers_from (suc k) n i d (omega arith) ∙ omega arith

IsWord-numbers_from : (d k n : ℕ) → 1 ≤ k → k + n ≤ suc d → IsWord d (numbers_from k n)
IsWord-numbers_from d k zero a b = tt
IsWord-numbers_from d k (suc n) a b = ((a, omega arith), IsWord-numbers_from d (suc k) n (omega arith) (omega arith))

below_numbers : (y k n : ℕ) → y < k → AllByRecursion (λ z. eqb y z ≡ false) (numbers_from k n)
below_numbers y k zero h = tt
below_numbers y k (suc n) h = (ne_eqb y k (λ e. omega arith), below_numbers y (suc k) n (omega arith))

IsDistinct-numbers_from : (k n : ℕ) → IsDistinct eqb (numbers_from k n)
unfolding IsDistinct
IsDistinct-numbers_from k zero = tt
IsDistinct-numbers_from k (suc n) = (below_numbers k (suc k) n (omega arith), IsDistinct-numbers_from (suc k) n)

pub IsPermutation-identity : (d : ℕ) → IsPermutation d (identity_permutation d)
IsPermutation-identity d = record { degree = length-numbers_from 1 d; letters = IsWord-numbers_from d 1 d (omega arith) (omega arith); distinct = IsDistinct-numbers_from 1 d }

pub image-identity : (d x : ℕ) → image (identity_permutation d) x ≡ x
image-identity d zero = refl
image-identity d (suc k) = elim (cases_lt k d) [
  | inl h ↦ get_or-numbers_from 1 d k (suc k) h ∙ omega arith
  | inr h ↦ get_or_past (identity_permutation d) k (suc k) (omega (arith, length-numbers_from 1 d))
]

-- first p, then q
pub IsPermutation-composite : (d : ℕ) (p q : List ℕ) → IsPermutation d p → IsPermutation d q → IsPermutation d (composite p q)
IsPermutation-composite d p q s r = IsPermutation-map d (image q) (preimage q) (λ x. preimage-image d q x r) (λ x. image-IsLetter d q x r) p s

pub image-composite : (d : ℕ) (p q : List ℕ) → IsPermutation d p → IsPermutation d q → (x : ℕ) → image (composite p q) x ≡ image q (image p x)
image-composite d p q s r x = elim (letter_or_not d x) [
  | inl l ↦ image-map d (image q) p s.degree (λ y. image_past d q y r) x l
  | inr n ↦ image_past d (composite p q) x (IsPermutation-composite d p q s r) n ∙ rw (image_past d p x s n) (sym (image_past d q x r n))
]

pub IsPermutation-inverse : (d : ℕ) (p : List ℕ) → IsPermutation d p → IsPermutation d (inverse_permutation p)
IsPermutation-inverse d p s = rw s.degree (IsPermutation-map d (preimage p) (image p) (λ y. image-preimage d p y s) (λ y. preimage-IsLetter d p y s) (identity_permutation d) (IsPermutation-identity d))

pub image-inverse : (d : ℕ) (p : List ℕ) → IsPermutation d p → (y : ℕ) → image (inverse_permutation p) y ≡ preimage p y
image-inverse d p s y = elim (letter_or_not d y) [
  | inl l ↦ rw s.degree (image-map d (preimage p) (identity_permutation d) (length-numbers_from 1 d) (λ z. preimage_past d p z s) y l ∙ ap (preimage p) (image-identity d y))
  | inr n ↦ image_past d (inverse_permutation p) y (IsPermutation-inverse d p s) n ∙ sym (preimage_past d p y s n)
]

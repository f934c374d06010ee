-- The product of a permutation's cycles is the permutation: each letter that is moved stands in one of them.
use Rattle.std.proofs.Common.{ℕ, zero, suc, ◌≡◌, ◌≢◌, ◌+◌, ◌-◌, ◌<◌, ◌≤◌, ◌⊎◌, ◌||◌, inl, inr, Bool, true, false, not, cond, nat_le, eqb, List, [], ◌∷◌, length, take, map, get_or, refl, sym, ◌∙◌, ap, arith}
use Rattle.std.specs.Prelude.{◌==◌, ◌&&◌, filter}
use Rattle.std.specs.List.{list_any, list_all}
use Rattle.std.proofs.lemmas.Bool.{cases_Bool, cases_eq, cases_lt, or_cases, or_left, or_right, and_parts, and_from, and_right, eq-eqb, ne_eqb, eqb-true, le-leb, leb-true, not_from_false}
use Rattle.std.proofs.lemmas.List.Folds.{list_any_at}
use Rattle.fr_model.specs.Words.{IsLetter}
use Rattle.fr_model.specs.Permutations.{IsPermutation, image, numbers_from, identity_permutation}
use Rattle.fr_model.proofs.PermutationLaws.{image_past, letter_or_not, get_or-numbers_from, length-numbers_from}
use Rattle.fr_alphabet.specs.Cycles.{iterates, path, cycle_of, begins_cycle, next_in, cycle_image, cycles_image, cycles_of}
use Rattle.fr_alphabet.proofs.CycleLaws.{IsOnPath, IsOnPath-image, IsOnPath-next, path-next, path-here}

-- y stands in the list
abbrev has : List ℕ → ℕ → Bool
has ys y = list_any (eqb y) ys

has_first : (y z : ℕ) (ys : List ℕ) → y ≡ z → has (z ∷ ys) y ≡ true
has_first y z ys e = or_left (eqb y z) (has ys y) (eq-eqb y z e)

has_later : (y z : ℕ) (ys : List ℕ) → has ys y ≡ true → has (z ∷ ys) y ≡ true
has_later y z ys h = or_right (eqb y z) (has ys y) h

has_cases : (y z : ℕ) (ys : List ℕ) → has (z ∷ ys) y ≡ true → (y ≡ z) ⊎ (has ys y ≡ true)
has_cases y z ys h = elim (or_cases (eqb y z) (has ys y) h) [ inl e ↦ inl (eqb-true y z e) | inr m ↦ inr m ]

has_at : (ys : List ℕ) (y z : ℕ) → y ≡ z → has ys z ≡ true → has ys y ≡ true
has_at ys y z e h = ap (has ys) e ∙ h

has_take : (y n : ℕ) (ys : List ℕ) → has (take n ys) y ≡ true → has ys y ≡ true
has_take y zero ys h = cc
has_take y (suc n) [] h = h
has_take y (suc n) (z ∷ zs) h = elim (has_cases y z (take n zs) h) [ inl e ↦ has_first y z zs e | inr m ↦ has_later y z zs (has_take y n zs m) ]

-- what holds at the end of a walk to x, and a step before where it holds after, holds from each letter on the way
walk : (p : List ℕ) (x : ℕ) (P : ℕ → List ℕ → Type 0) → IsPermutation (length p) p
    → ((w : ℕ) → x ≡ image p w → P w []) → ((w : ℕ) (ys : List ℕ) → IsOnPath p x (image p w) → P (image p w) ys → P w (image p w ∷ ys))
    → (n w : ℕ) → length (path p x (image p w)) ≤ n → IsOnPath p x (image p w) → P w (path p x (image p w))
walk p x P s end step zero w h o = elim (cases_eq x (image p w)) [
  | inl e ↦ rw (path-here p x (image p w) e) (end w e)
  | inr m ↦ absurd (omega (arith, ap length (path-next p x (image p w) m o)))
]
walk p x P s end step (suc n) w h o = elim (cases_eq x (image p w)) [
  | inl e ↦ rw (path-here p x (image p w) e) (end w e)
  | inr m ↦
      let e = path-next p x (image p w) m o in
      rw e (step w _ o (walk p x P s end step n (image p w) (omega (arith, ap length e)) (IsOnPath-next p x (image p w) s m o)))
]

walk_from : (p : List ℕ) (x : ℕ) (P : ℕ → List ℕ → Type 0) → IsPermutation (length p) p → IsLetter (length p) x
    → ((w : ℕ) → x ≡ image p w → P w []) → ((w : ℕ) (ys : List ℕ) → IsOnPath p x (image p w) → P (image p w) ys → P w (image p w ∷ ys)) → P x (path p x (image p x))
walk_from p x P s l end step = walk p x P s end step (length (path p x (image p x))) x (omega arith) (IsOnPath-image p x s l)

-- within its cycle a letter goes to its image
cycle_image-cycle_of : (p : List ℕ) (x y : ℕ) → IsPermutation (length p) p → IsLetter (length p) x → cycle_image (cycle_of p x) y ≡ cond (has (cycle_of p x) y) (image p y) y
cycle_image-cycle_of p x y s l = walk_from p x (λ w ys. next_in x (w ∷ ys) y ≡ cond (has (w ∷ ys) y) (image p y) y) s l end step
  where
    end : (w : ℕ) → x ≡ image p w → next_in x (w ∷ []) y ≡ cond (has (w ∷ []) y) (image p y) y
    end w e = elim (cases_eq y w) [ inl q ↦ rw (eq-eqb y w q) (e ∙ ap (image p) (sym q)) | inr n ↦ rw (ne_eqb y w n) refl ]

    step : (w : ℕ) (ys : List ℕ) → IsOnPath p x (image p w) → next_in x (image p w ∷ ys) y ≡ cond (has (image p w ∷ ys) y) (image p y) y → next_in x (w ∷ image p w ∷ ys) y ≡ cond (has (w ∷ image p w ∷ ys) y) (image p y) y
    step w ys o r = elim (cases_eq y w) [ inl q ↦ rw (eq-eqb y w q) (ap (image p) (sym q)) | inr n ↦ rw (ne_eqb y w n) r ]

-- the image of a letter of a cycle stands in it
image_stays : (p : List ℕ) (x y : ℕ) → IsPermutation (length p) p → IsLetter (length p) x → has (cycle_of p x) y ≡ true → has (cycle_of p x) (image p y) ≡ true
image_stays p x y s l h = elim (walk_from p x (λ w ys. has (w ∷ ys) y ≡ true → (image p y ≡ x) ⊎ (has ys (image p y) ≡ true)) s l end step h) [
  | inl e ↦ has_first (image p y) x (path p x (image p x)) e
  | inr m ↦ has_later (image p y) x (path p x (image p x)) m
]
  where
    end : (w : ℕ) → x ≡ image p w → has (w ∷ []) y ≡ true → (image p y ≡ x) ⊎ (has [] (image p y) ≡ true)
    end w e k = elim (has_cases y w [] k) [ inl q ↦ inl (ap (image p) q ∙ sym e) | inr m ↦ cc ]

    step : (w : ℕ) (ys : List ℕ) → IsOnPath p x (image p w) → (has (image p w ∷ ys) y ≡ true → (image p y ≡ x) ⊎ (has ys (image p y) ≡ true)) → has (w ∷ image p w ∷ ys) y ≡ true → (image p y ≡ x) ⊎ (has (image p w ∷ ys) (image p y) ≡ true)
    step w ys o r k = elim (has_cases y w (image p w ∷ ys) k) [
      | inl q ↦ inr (has_first (image p y) (image p w) ys (ap (image p) q))
      | inr m ↦ elim (r m) [ inl q ↦ inl q | inr t ↦ inr (has_later (image p y) (image p w) ys t) ]
    ]

-- from each letter of a cycle the first one comes
on_cycle : (p : List ℕ) (x y : ℕ) → IsPermutation (length p) p → IsLetter (length p) x → has (cycle_of p x) y ≡ true → (y ≡ x) ⊎ IsOnPath p x y
on_cycle p x y s l h = elim (has_cases y x (path p x (image p x)) h) [
  | inl e ↦ inl e
  | inr m ↦ inr (walk_from p x (λ w ys. has ys y ≡ true → IsOnPath p x y) s l end step m)
]
  where
    end : (w : ℕ) → x ≡ image p w → has [] y ≡ true → IsOnPath p x y
    end w e k = cc

    step : (w : ℕ) (ys : List ℕ) → IsOnPath p x (image p w) → (has ys y ≡ true → IsOnPath p x y) → has (image p w ∷ ys) y ≡ true → IsOnPath p x y
    step w ys o r k = elim (has_cases y (image p w) ys k) [ inl q ↦ rw q o | inr m ↦ r m ]

-- so it is a letter
letter_on_cycle : (p : List ℕ) (x y : ℕ) → IsPermutation (length p) p → IsLetter (length p) x → has (cycle_of p x) y ≡ true → IsLetter (length p) y
letter_on_cycle p x y s l h = elim (on_cycle p x y s l h) [ inl e ↦ rw e l | inr o ↦ o.letter ]

-- images of images stay in a cycle
iterates_stay : (p : List ℕ) (x z y n : ℕ) → IsPermutation (length p) p → IsLetter (length p) x → has (cycle_of p x) z ≡ true → has (iterates p n z) y ≡ true → has (cycle_of p x) y ≡ true
iterates_stay p x z y zero s l h k = cc
iterates_stay p x z y (suc n) s l h k = elim (has_cases y z (iterates p n (image p z)) k) [
  | inl e ↦ has_at (cycle_of p x) y z e h
  | inr m ↦ iterates_stay p x (image p z) y n s l (image_stays p x z s l h) m
]

-- cycles with a letter in common have each other's first letter
first_met : (p : List ℕ) (x y z : ℕ) → IsPermutation (length p) p → IsLetter (length p) x → IsLetter (length p) y → has (cycle_of p x) z ≡ true → has (cycle_of p y) z ≡ true → has (cycle_of p x) y ≡ true
first_met p x y z s l m h k = elim (on_cycle p y z s m k) [
  | inl e ↦ has_at (cycle_of p x) y z (sym e) h
  | inr o ↦ iterates_stay p x z y (length p) s l h o.comes
]

-- the tests of a cycle's least letter, as facts for each of its letters
least_has : (x y : ℕ) (ys : List ℕ) → list_all (nat_le x) ys ≡ true → has ys y ≡ true → x ≤ y
least_has x y [] h k = cc
least_has x y (z ∷ zs) h k =
    let parts = and_parts (nat_le x z) (list_all (nat_le x) zs) h in
    elim (has_cases y z zs k) [ inl e ↦ omega (arith, leb-true x z parts.0, e) | inr m ↦ least_has x y zs parts.1 m ]

least_from : (x : ℕ) (ys : List ℕ) → ((z : ℕ) → has ys z ≡ true → x ≤ z) → list_all (nat_le x) ys ≡ true
least_from x [] h = refl
least_from x (z ∷ zs) h = and_from (nat_le x z) (list_all (nat_le x) zs) (le-leb x z (h z (has_first z z zs refl))) (least_from x zs (λ y k. h y (has_later y z zs k)))

-- a list has a least member
least_of : (x : ℕ) (ys : List ℕ) → (m : ℕ) × (has (x ∷ ys) m ≡ true) × ((z : ℕ) → has (x ∷ ys) z ≡ true → m ≤ z)
least_of x [] = (x, has_first x x [] refl, λ z h. elim (has_cases z x [] h) [ inl e ↦ omega arith | inr m ↦ cc ])
least_of x (y ∷ ys) =
    let r = least_of y ys in
    elim (cases_lt x r.0) [
      | inl h ↦ (x, has_first x x (y ∷ ys) refl, λ z k. elim (has_cases z x (y ∷ ys) k) [ inl e ↦ omega arith | inr m ↦ let g = r.2 z m in omega arith ])
      | inr h ↦ (r.0, has_later r.0 x (y ∷ ys) r.1, λ z k. elim (has_cases z x (y ∷ ys) k) [ inl e ↦ omega arith | inr m ↦ r.2 z m ])
    ]

-- a cycle that is written begins with its least letter
begins-least : (p : List ℕ) (x : ℕ) → begins_cycle p x ≡ true → list_all (nat_le x) (cycle_of p x) ≡ true
begins-least p x h = (and_parts (not (image p x == x)) (list_all (nat_le x) (cycle_of p x)) h).1

-- one letter does not stand in two cycles
begins_apart : (p : List ℕ) (x y z : ℕ) → IsPermutation (length p) p → IsLetter (length p) x → IsLetter (length p) y → begins_cycle p x ≡ true → begins_cycle p y ≡ true → has (cycle_of p x) z ≡ true → has (cycle_of p y) z ≡ true → x ≡ y
begins_apart p x y z s l m b c h k =
    let f = least_has x y (cycle_of p x) (begins-least p x b) (first_met p x y z s l m h k) in
    let g = least_has y x (cycle_of p y) (begins-least p y c) (first_met p y x z s m l k h) in
    omega arith

-- y stands in a cycle that begins at one of these letters
abbrev held : List ℕ → List ℕ → ℕ → Bool
held p ls y = list_any (λ x. begins_cycle p x && has (cycle_of p x) y) ls

-- not where it stands in one that begins before them
unheld : (p : List ℕ) (k n x y : ℕ) → IsPermutation (length p) p → IsLetter (length p) x → x < k → k + n ≤ suc (length p) → begins_cycle p x ≡ true → has (cycle_of p x) y ≡ true → held p (numbers_from k n) y ≡ false
unheld p k zero x y s l h g b m = refl
unheld p k (suc n) x y s l h g b m = elim (cases_Bool (begins_cycle p k && has (cycle_of p k) y)) [
  | inl t ↦
      let parts = and_parts (begins_cycle p k) (has (cycle_of p k) y) t in
      let e = begins_apart p x k y s l (omega arith, omega arith) b parts.0 m parts.1 in
      absurd (omega arith)
  | inr f ↦ rw f (unheld p (suc k) n x y s l (omega arith) (omega arith) b m)
]

-- the product of the cycles that begin at some letters
product_from : (p : List ℕ) (k n y : ℕ) → IsPermutation (length p) p → 1 ≤ k → k + n ≤ suc (length p)
    → cycles_image (map (cycle_of p) (filter (begins_cycle p) (numbers_from k n))) y ≡ cond (held p (numbers_from k n) y) (image p y) y
product_from p k zero y s h g = refl
product_from p k (suc n) y s h g = elim (cases_Bool (begins_cycle p k)) [
  | inr f ↦ rw f (product_from p (suc k) n y s (omega arith) (omega arith))
  | inl t ↦
      let l : IsLetter (length p) k = (h, omega arith) in
      let rest = filter (begins_cycle p) (numbers_from (suc k) n) in
      let here = cycle_image-cycle_of p k y s l in
      let first = ap (λ b. cycles_image (map (cycle_of p) (cond b (k ∷ rest) rest)) y) t in
      elim (cases_Bool (has (cycle_of p k) y)) [
        | inl m ↦
            let later = product_from p (suc k) n (image p y) s (omega arith) (omega arith) in
            let none = unheld p (suc k) n k (image p y) s l (omega arith) (omega arith) t (image_stays p k y s l m) in
            let some = or_left (begins_cycle p k && has (cycle_of p k) y) (held p (numbers_from (suc k) n) y) (and_from (begins_cycle p k) (has (cycle_of p k) y) t m) in
            first ∙ ap (cycles_image (map (cycle_of p) rest)) (here ∙ ap (λ b. cond b (image p y) y) m) ∙ later ∙ ap (λ b. cond b (image p (image p y)) (image p y)) none ∙ sym (ap (λ b. cond b (image p y) y) some)
        | inr m ↦
            let later = product_from p (suc k) n y s (omega arith) (omega arith) in
            let same = ap (λ b. b || held p (numbers_from (suc k) n) y) (and_right (begins_cycle p k) (has (cycle_of p k) y) m) in
            first ∙ ap (cycles_image (map (cycle_of p) rest)) (here ∙ ap (λ b. cond b (image p y) y) m) ∙ later ∙ sym (ap (λ b. cond b (image p y) y) same)
      ]
]

-- the images of a letter that stays
iterates_fixed : (p : List ℕ) (x y n : ℕ) → image p x ≡ x → has (iterates p n x) y ≡ true → y ≡ x
iterates_fixed p x y zero e h = cc
iterates_fixed p x y (suc n) e h = elim (has_cases y x (iterates p n (image p x)) h) [
  | inl q ↦ q
  | inr m ↦ iterates_fixed p x y n e (ap (λ z. has (iterates p n z) y) (sym e) ∙ m)
]

-- a letter of the cycle of a moved letter is moved
moved_on_cycle : (p : List ℕ) (x y : ℕ) → IsPermutation (length p) p → IsLetter (length p) y → image p y ≢ y → has (cycle_of p y) x ≡ true → image p x ≢ x
moved_on_cycle p x y s l n h e = elim (on_cycle p y x s l h) [
  | inl q ↦ n (ap (image p) (sym q) ∙ e ∙ q)
  | inr o ↦ let q = iterates_fixed p x y (length p) e o.comes in n (ap (image p) q ∙ e ∙ sym q)
]

-- the cycle from another of its letters on has the same letters
cycle_within : (p : List ℕ) (x y z : ℕ) → IsPermutation (length p) p → IsLetter (length p) y → has (cycle_of p y) x ≡ true → has (cycle_of p x) z ≡ true → has (cycle_of p y) z ≡ true
cycle_within p x y z s l h k = elim (has_cases z x (path p x (image p x)) k) [
  | inl e ↦ has_at (cycle_of p y) z x e h
  | inr m ↦ iterates_stay p y (image p x) z (length p) s l (image_stays p y x s l h) (has_take z _ (iterates p (length p) (image p x)) m)
]

-- a letter that is moved stands in a cycle, which begins with its least letter
moved_held : (p : List ℕ) (y : ℕ) → IsPermutation (length p) p → IsLetter (length p) y → image p y ≢ y → held p (identity_permutation (length p)) y ≡ true
moved_held p y s l n =
    let least = least_of y (path p y (image p y)) in
    let m = least.0 in
    let letter = letter_on_cycle p y m s l least.1 in
    let moved = moved_on_cycle p m y s l n least.1 in
    let begins = and_from (not (image p m == m)) (list_all (nat_le m) (cycle_of p m)) (not_from_false (image p m == m) (ne_eqb (image p m) m moved)) (least_from m (cycle_of p m) (λ z h. least.2 z (cycle_within p m y z s l least.1 h))) in
    let stands = first_met p m y m s letter l (has_first m m (path p m (image p m)) refl) least.1 in
    let at : get_or (identity_permutation (length p)) (m - 1) 0 ≡ m = get_or-numbers_from 1 (length p) (m - 1) 0 (omega (arith, letter)) ∙ omega (arith, letter) in
    list_any_at (λ x. begins_cycle p x && has (cycle_of p x) y) (identity_permutation (length p)) (m - 1) 0 (omega (arith, letter, length-numbers_from 1 (length p)))
    (ap (λ x. begins_cycle p x && has (cycle_of p x) y) at ∙ and_from (begins_cycle p m) (has (cycle_of p m) y) begins stands)

-- one that stands in no cycle stays
unheld_stays : (p : List ℕ) (y : ℕ) → IsPermutation (length p) p → held p (identity_permutation (length p)) y ≡ false → image p y ≡ y
unheld_stays p y s f = elim (letter_or_not (length p) y) [
  | inr n ↦ image_past (length p) p y s n
  | inl l ↦ elim (cases_eq (image p y) y) [ inl e ↦ e | inr n ↦ let h = moved_held p y s l n in cc ]
]

pub cycles_image-cycles_of : (p : List ℕ) (y : ℕ) → IsPermutation (length p) p → cycles_image (cycles_of p) y ≡ image p y
cycles_image-cycles_of p y s = elim (cases_Bool (held p (identity_permutation (length p)) y)) [
  | inl t ↦ product_from p 1 (length p) y s (omega arith) (omega arith) ∙ ap (λ b. cond b (image p y) y) t
  | inr f ↦ product_from p 1 (length p) y s (omega arith) (omega arith) ∙ ap (λ b. cond b (image p y) y) f ∙ sym (unheld_stays p y s f)
]

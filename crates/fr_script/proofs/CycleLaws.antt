-- Disjoint cycles of letters write a permutation.
use Rattle.std.proofs.Common.{◌≡◌, ◌≢◌, ℕ, zero, suc, ◌+◌, ◌<◌, ◌≤◌, ◌==◌, Bool, true, false, ◌||◌, ◌⊎◌, inl, inr, eqb, List, [], ◌∷◌, ◌++◌, Option, Some, None, length, map, take, drop, set, get_or, refl, ap, sym, ◌∙◌, arith, add-one, drop-cons, subst}
use Rattle.std.proofs.lemmas.Bool.{eqb-false, eq-eqb, ne_eqb, cases_eq, cases_Bool, or_cases}
use Rattle.std.proofs.lemmas.List.{map-append, length-map}
use Rattle.std.proofs.lemmas.List.Folds.{list_any-append}
use Rattle.std.proofs.lemmas.Option.{same_Some}
use Rattle.std.proofs.Math.Seq.{take-suc-set}
use Rattle.std.specs.List.{list_any, IsDistinct, AllByRecursion}
use Rattle.fr_model.specs.Words.{IsLetter, IsWord}
use Rattle.fr_model.specs.Permutations.{IsPermutation, numbers_from}
use Rattle.fr_script.specs.Cycles.{letter_after, next_in_cycle, disjoint_cycles_image, cycles_permutation, cycles_letters, has_repeat}

-- whether x stands in a list
abbrev pub has : ℕ → List ℕ → Bool
has x xs = list_any (λ y. y == x) xs

has-cases : (x y : ℕ) (ys : List ℕ) → has x (y ∷ ys) ≡ true → (y ≡ x) ⊎ (has x ys ≡ true)
has-cases x y ys h = elim (cases_eq y x) [ inl e ↦ inl e | inr ne ↦ inr (rw (ne_eqb y x ne) at h) ]

has-here : (x y : ℕ) (ys : List ℕ) → y ≡ x → has x (y ∷ ys) ≡ true
has-here x y ys e = ap (λ b. b || has x ys) (eq-eqb y x e)

or-right : (b c : Bool) → c ≡ true → (b || c) ≡ true
or-right true c h = refl
or-right false c h = h

pub or-none : (b c : Bool) → (b || c) ≡ false → (b ≡ false) × (c ≡ false)
or-none true c h = cc
or-none false c h = (refl, h)

has-there : (x y : ℕ) (ys : List ℕ) → has x ys ≡ true → has x (y ∷ ys) ≡ true
has-there x y ys h = or-right (y == x) (has x ys) h

has-not : (x y : ℕ) (ys : List ℕ) → has x (y ∷ ys) ≡ false → (y ≢ x) × (has x ys ≡ false)
has-not x y ys h = let both = or-none (y == x) (has x ys) h in (eqb-false y x both.0, both.1)

pub clash : {b : Bool} → b ≡ true → b ≡ false → ⊥
clash h k = cc

has-front : (x : ℕ) (xs ys : List ℕ) → has x xs ≡ true → has x (xs ++ ys) ≡ true
has-front x [] ys h = cc
has-front x (y ∷ xs) ys h = elim (has-cases x y xs h) [ inl e ↦ has-here x y (xs ++ ys) e | inr k ↦ has-there x y (xs ++ ys) (has-front x xs ys k) ]

has-back : (x : ℕ) (xs ys : List ℕ) → has x ys ≡ true → has x (xs ++ ys) ≡ true
has-back x [] ys h = h
has-back x (y ∷ xs) ys h = has-there x y (xs ++ ys) (has-back x xs ys h)

-- no letter twice in a list: in neither part, and in no two
pub repeat-parts : (xs ys : List ℕ) → has_repeat (xs ++ ys) ≡ false →
    (has_repeat xs ≡ false) × (has_repeat ys ≡ false) × ((x : ℕ) → has x xs ≡ true → has x ys ≡ true → ⊥)
repeat-parts [] ys h = (refl, h, λ x k. cc)
repeat-parts (y ∷ xs) ys h =
    let both = or-none (has y (xs ++ ys)) (has_repeat (xs ++ ys)) h in
    let rest = repeat-parts xs ys both.1 in
    let none : has y xs ≡ false = elim (cases_Bool (has y xs)) [ inl t ↦ absurd (clash (has-front y xs ys t) both.0) | inr n ↦ n ] in
    let apart : (x : ℕ) → has x (y ∷ xs) ≡ true → has x ys ≡ true → ⊥ = λ x k m.
    elim (has-cases x y xs k) [ inl e ↦ clash (has-back y xs ys (subst (λ (z : ℕ). has z ys ≡ true) (sym e) m)) both.0 | inr t ↦ rest.2 x t m ] in
    (rw (none, rest.0) refl, rest.1, apart)

after-here : (first x y : ℕ) (ys : List ℕ) → y ≡ x → (z : ℕ) × (letter_after first (y ∷ ys) x ≡ Some z)
after-here first x y [] e = (first, rw (eq-eqb y x e) refl)
after-here first x y (z ∷ more) e = (z, rw (eq-eqb y x e) refl)

after-past : (first x y : ℕ) (ys : List ℕ) → y ≢ x → letter_after first (y ∷ ys) x ≡ letter_after first ys x
after-past first x y [] ne = rw (ne_eqb y x ne) refl
after-past first x y (z ∷ more) ne = rw (ne_eqb y x ne) refl

-- what has a next letter stands there
pub after-has : (first x z : ℕ) (ys : List ℕ) → letter_after first ys x ≡ Some z → has x ys ≡ true
after-has first x z [] h = cc
after-has first x z (y ∷ ys) h =
    elim (cases_eq y x) [ inl e ↦ has-here x y ys e | inr ne ↦ has-there x y ys (after-has first x z ys (sym (after-past first x y ys ne) ∙ h)) ]

has-after : (first x : ℕ) (ys : List ℕ) → has x ys ≡ true → (z : ℕ) × (letter_after first ys x ≡ Some z)
has-after first x [] h = cc
has-after first x (y ∷ ys) h = elim (cases_eq y x) [
  | inl e ↦ after-here first x y ys e
  | inr ne ↦ let next = has-after first x ys (rw (ne_eqb y x ne) at h) in (next.0, after-past first x y ys ne ∙ next.1)
]

-- the next letter is a later one, or the first
after-target : (first x y z : ℕ) (ys : List ℕ) → letter_after first (y ∷ ys) x ≡ Some z → (has z ys ≡ true) ⊎ (z ≡ first)
after-target first x y z [] h = elim (cases_eq y x) [
  | inl e ↦ inr (sym (same_Some first z (rw (eq-eqb y x e) at h)))
  | inr ne ↦ let k : None ≡ Some z = rw (ne_eqb y x ne) at h in cc
]
after-target first x y z (w ∷ more) h = elim (cases_eq y x) [
  | inl e ↦ inl (has-here z w more (same_Some w z (rw (eq-eqb y x e) at h)))
  | inr ne ↦ elim (after-target first x w z more (sym (after-past first x y (w ∷ more) ne) ∙ h)) [ inl k ↦ inl (has-there z w more k) | inr k ↦ inr k ]
]

-- where one letter is the last or next to another, no other letter has the same next one
after-once : (first b y z : ℕ) (ys : List ℕ) → has_repeat (y ∷ ys) ≡ false → has first ys ≡ false → y ≢ b →
    letter_after first (y ∷ ys) y ≡ Some z → letter_after first (y ∷ ys) b ≡ Some z → ⊥
after-once first b y z [] r t ne h k = let g : None ≡ Some z = sym (after-past first b y [] ne) ∙ k in cc
after-once first b y z (w ∷ more) r t ne h k =
    let e : w ≡ z = same_Some w z (rw (eq-eqb y y refl) at h) in
    let apart = or-none (has y (w ∷ more)) (has_repeat (w ∷ more)) r in
    let few = or-none (has w more) (has_repeat more) apart.1 in
    let out = has-not first w more t in
    elim (after-target first b w z more (sym (after-past first b y (w ∷ more) ne) ∙ k)) [
      | inl g ↦ clash (subst (λ (u : ℕ). has u more ≡ true) (sym e) g) few.0
      | inr g ↦ out.0 (e ∙ g)
    ]

-- in a list with no letter twice, no two letters have the same next one
after-injective : (first a b z : ℕ) (ys : List ℕ) → has_repeat ys ≡ false → ((y : ℕ) (more : List ℕ) → ys ≡ y ∷ more → has first more ≡ false) →
    letter_after first ys a ≡ Some z → letter_after first ys b ≡ Some z → a ≡ b
after-injective first a b z [] r t h k = cc
after-injective first a b z (y ∷ ys) r t h k = elim (cases_eq y a) [
  | inl e ↦ elim (cases_eq y b) [
    | inl g ↦ sym e ∙ g
    | inr ne ↦ absurd (after-once first b y z ys r (t y ys refl) ne (subst (λ (u : ℕ). letter_after first (y ∷ ys) u ≡ Some z) (sym e) h) k)
  ]
  | inr na ↦ elim (cases_eq y b) [
    | inl g ↦ absurd (after-once first a y z ys r (t y ys refl) na (subst (λ (u : ℕ). letter_after first (y ∷ ys) u ≡ Some z) (sym g) k) h)
    | inr nb ↦
        after-injective first a b z ys (or-none (has y ys) (has_repeat ys) r).1
        (λ w more e. (has-not first w more (subst (λ (l : List ℕ). has first l ≡ false) e (t y ys refl))).1)
        (sym (after-past first a y ys na) ∙ h) (sym (after-past first b y ys nb) ∙ k)
  ]
]

next-injective : (a b z : ℕ) (cycle : List ℕ) → has_repeat cycle ≡ false → next_in_cycle cycle a ≡ Some z → next_in_cycle cycle b ≡ Some z → a ≡ b
next-injective a b z [] r h k = cc
next-injective a b z (y ∷ ys) r h k =
    after-injective y a b z (y ∷ ys) r (λ w more e. let tail : ys ≡ more = cc in rw (← tail) ((or-none (has y ys) (has_repeat ys) r).0)) h k

pub next-target : (x z : ℕ) (cycle : List ℕ) → next_in_cycle cycle x ≡ Some z → has z cycle ≡ true
next-target x z [] h = cc
next-target x z (y ∷ ys) h = elim (after-target y x y z ys h) [ inl k ↦ has-there z y ys k | inr e ↦ has-here z y ys (sym e) ]

pub image-some : (cycle : List ℕ) (cycles : List (List ℕ)) (x z : ℕ) → next_in_cycle cycle x ≡ Some z → disjoint_cycles_image (cycle ∷ cycles) x ≡ z
image-some cycle cycles x z h = rw h refl

pub image-none : (cycle : List ℕ) (cycles : List (List ℕ)) (x : ℕ) → next_in_cycle cycle x ≡ None → disjoint_cycles_image (cycle ∷ cycles) x ≡ disjoint_cycles_image cycles x
image-none cycle cycles x h = rw h refl

-- a letter has a next one in a cycle, or does not stand there
pub next-cases : (cycle : List ℕ) (x : ℕ) → ((z : ℕ) × (next_in_cycle cycle x ≡ Some z)) ⊎ (next_in_cycle cycle x ≡ None)
next-cases cycle x = by (next_in_cycle cycle x) refl
  where
    by : (o : Option ℕ) → next_in_cycle cycle x ≡ o → ((z : ℕ) × (next_in_cycle cycle x ≡ Some z)) ⊎ (next_in_cycle cycle x ≡ None)
    by None e = inr e
    by (Some z) e = inl (z, e)

has-split : (x : ℕ) (xs ys : List ℕ) → has x (xs ++ ys) ≡ true → (has x xs ≡ true) ⊎ (has x ys ≡ true)
has-split x xs ys h = or_cases (has x xs) (has x ys) (sym (list_any-append (λ y. y == x) xs ys) ∙ h)

has-next : (x : ℕ) (cycle : List ℕ) → has x cycle ≡ true → next_in_cycle cycle x ≡ None → ⊥
has-next x cycle h n = let next = has-after (get_or cycle 0 0) x cycle h in cc

-- a letter of the cycles goes to one
image-inside : (cycles : List (List ℕ)) (x : ℕ) → has x (cycles_letters cycles) ≡ true → has (disjoint_cycles_image cycles x) (cycles_letters cycles) ≡ true
image-inside [] x h = cc
image-inside (cycle ∷ cycles) x h = elim (next-cases cycle x) [
  | inl k ↦ rw (image-some cycle cycles x k.0 k.1) (has-front k.0 cycle (cycles_letters cycles) (next-target x k.0 cycle k.1))
  | inr n ↦ elim (has-split x cycle (cycles_letters cycles) h) [
    | inl t ↦ absurd (has-next x cycle t n)
    | inr t ↦ rw (image-none cycle cycles x n) (has-back (disjoint_cycles_image cycles x) cycle (cycles_letters cycles) (image-inside cycles x t))
  ]
]

-- another number stays
image-outside : (cycles : List (List ℕ)) (x : ℕ) → has x (cycles_letters cycles) ≡ false → disjoint_cycles_image cycles x ≡ x
image-outside [] x h = refl
image-outside (cycle ∷ cycles) x h =
    let both = or-none (has x cycle) (has x (cycles_letters cycles)) (sym (list_any-append (λ y. y == x) cycle (cycles_letters cycles)) ∙ h) in
    elim (next-cases cycle x) [
      | inl k ↦ absurd (clash (after-has (get_or cycle 0 0) x k.0 cycle k.1) both.0)
      | inr n ↦ image-none cycle cycles x n ∙ image-outside cycles x both.1
    ]

-- the image of a letter that is in a cycle, and that of one that is not in it, differ
image-apart : (cycle : List ℕ) (cycles : List (List ℕ)) (x y z : ℕ) → has_repeat (cycle ++ cycles_letters cycles) ≡ false →
    next_in_cycle cycle x ≡ Some z → next_in_cycle cycle y ≡ None → z ≡ disjoint_cycles_image cycles y → ⊥
image-apart cycle cycles x y z r h n e =
    let parts = repeat-parts cycle (cycles_letters cycles) r in
    let inside : has z cycle ≡ true = next-target x z cycle h in
    elim (cases_Bool (has y (cycles_letters cycles))) [
      | inl t ↦ parts.2 z inside (rw e (image-inside cycles y t))
      | inr f ↦ has-next y cycle (rw (← image-outside cycles y f, ← e) inside) n
    ]

image-injective : (cycles : List (List ℕ)) (x y : ℕ) → has_repeat (cycles_letters cycles) ≡ false → disjoint_cycles_image cycles x ≡ disjoint_cycles_image cycles y → x ≡ y
image-injective [] x y r e = e
image-injective (cycle ∷ cycles) x y r e =
    let parts = repeat-parts cycle (cycles_letters cycles) r in
    elim (next-cases cycle x) [
      | inl h ↦ elim (next-cases cycle y) [
        | inl k ↦
            let same : h.0 ≡ k.0 = sym (image-some cycle cycles x h.0 h.1) ∙ e ∙ image-some cycle cycles y k.0 k.1 in
            next-injective x y k.0 cycle parts.0 (h.1 ∙ ap Some same) k.1
        | inr n ↦ absurd (image-apart cycle cycles x y h.0 r h.1 n (sym (image-some cycle cycles x h.0 h.1) ∙ e ∙ image-none cycle cycles y n))
      ]
      | inr m ↦ elim (next-cases cycle y) [
        | inl k ↦ absurd (image-apart cycle cycles y x k.0 r k.1 m (sym (image-some cycle cycles y k.0 k.1) ∙ sym e ∙ image-none cycle cycles x m))
        | inr n ↦ image-injective cycles x y parts.1 (sym (image-none cycle cycles x m) ∙ e ∙ image-none cycle cycles y n)
      ]
    ]

word-letter : (d x : ℕ) (w : List ℕ) → IsWord d w → has x w ≡ true → IsLetter d x
word-letter d x [] w h = cc
word-letter d x (y ∷ ys) w h = elim (has-cases x y ys h) [ inl e ↦ rw (← e) w.0 | inr k ↦ word-letter d x ys w.1 k ]

-- the image of a letter is one
image-letter : (d x : ℕ) (cycles : List (List ℕ)) → IsWord d (cycles_letters cycles) → IsLetter d x → IsLetter d (disjoint_cycles_image cycles x)
image-letter d x cycles w l = elim (cases_Bool (has x (cycles_letters cycles))) [
  | inl t ↦ word-letter d (disjoint_cycles_image cycles x) (cycles_letters cycles) w (image-inside cycles x t)
  | inr f ↦ rw (image-outside cycles x f) l
]

letters-from : (d k n : ℕ) (cycles : List (List ℕ)) → IsWord d (cycles_letters cycles) → 1 ≤ k → k + n ≤ suc d → IsWord d (map (disjoint_cycles_image cycles) (numbers_from k n))
letters-from d k zero cycles w a b = tt
letters-from d k (suc n) cycles w a b = (image-letter d k cycles w (a, omega arith), letters-from d (suc k) n cycles w (omega arith) (omega arith))

apart-from : (k j n : ℕ) (cycles : List (List ℕ)) → has_repeat (cycles_letters cycles) ≡ false → k < j →
    AllByRecursion (λ y. eqb (disjoint_cycles_image cycles k) y ≡ false) (map (disjoint_cycles_image cycles) (numbers_from j n))
apart-from k j zero cycles r h = tt
apart-from k j (suc n) cycles r h =
    (ne_eqb _ _ (λ e. let same : k ≡ j = image-injective cycles k j r e in omega (arith, same, h)), apart-from k (suc j) n cycles r (omega arith))

distinct-from : (k n : ℕ) (cycles : List (List ℕ)) → has_repeat (cycles_letters cycles) ≡ false → IsDistinct eqb (map (disjoint_cycles_image cycles) (numbers_from k n))
unfolding IsDistinct
distinct-from k zero cycles r = tt
distinct-from k (suc n) cycles r = (apart-from k (suc k) n cycles r (omega arith), distinct-from (suc k) n cycles r)

length-numbers : (k n : ℕ) → length (numbers_from k n) ≡ n
length-numbers k zero = refl
length-numbers k (suc n) = ap suc (length-numbers (suc k) n)

-- disjoint cycles of letters are a permutation
pub IsPermutation-cycles : (d : ℕ) (cycles : List (List ℕ)) → IsWord d (cycles_letters cycles) → has_repeat (cycles_letters cycles) ≡ false →
    IsPermutation d (cycles_permutation d cycles)
IsPermutation-cycles d cycles w r = record {
  degree = length-map (numbers_from 1 d) (disjoint_cycles_image cycles) ∙ length-numbers 1 d;
  letters = letters-from d 1 d cycles w (omega arith) (omega arith);
  distinct = distinct-from 1 d cycles r;
}

-- one letter further in a cycle
pub goes_past : (first x i : ℕ) (cycle : List ℕ) → i < length cycle → get_or cycle i 0 ≢ x → letter_after first (drop (i + 1) cycle) x ≡ letter_after first (drop i cycle) x
goes_past first x i cycle h n = rw (add-one, drop-cons cycle i 0 h) (sym (after-past first x (get_or cycle i 0) (drop (suc i) cycle) n))

-- one image more
numbers-more : (k n : ℕ) → numbers_from k (suc n) ≡ numbers_from k n ++ (k + n) ∷ []
numbers-more k zero = ap (λ m. m ∷ []) (omega arith)
numbers-more k (suc n) = ap (λ l. k ∷ l) (numbers-more (suc k) n ∙ ap (λ m. numbers_from (suc k) n ++ m ∷ []) (omega arith))

pub image_more : (cycles : List (List ℕ)) (images : List ℕ) (x v : ℕ) → x < length images → take x images ≡ map (disjoint_cycles_image cycles) (numbers_from 1 x) →
    v ≡ disjoint_cycles_image cycles (x + 1) → take (x + 1) (set images x v) ≡ map (disjoint_cycles_image cycles) (numbers_from 1 (x + 1))
image_more cycles images x v h e k =
    let next : 1 + x ≡ x + 1 = omega arith in
    let more : map (disjoint_cycles_image cycles) (numbers_from 1 (suc x)) ≡ map (disjoint_cycles_image cycles) (numbers_from 1 x) ++ disjoint_cycles_image cycles (x + 1) ∷ [] =
    ap (map (disjoint_cycles_image cycles)) (numbers-more 1 x) ∙ map-append (disjoint_cycles_image cycles) (numbers_from 1 x) ((1 + x) ∷ []) ∙ ap (λ m. map (disjoint_cycles_image cycles) (numbers_from 1 x) ++ disjoint_cycles_image cycles m ∷ []) next in
    let up : x + 1 ≡ suc x = omega arith in
    ap (λ m. take m (set images x v)) up ∙ take-suc-set images x v h ∙ ap (λ l. l ++ v ∷ []) e
    ∙ ap (λ m. map (disjoint_cycles_image cycles) (numbers_from 1 x) ++ m ∷ []) k ∙ sym (ap (λ m. map (disjoint_cycles_image cycles) (numbers_from 1 m)) up ∙ more)

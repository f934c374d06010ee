-- The canonical form of a ray: the primitive period, which is rolled back as far as the letters agree.
use Rattle.std.proofs.Common.{ℕ, zero, suc, Bool, false, ◌≡◌, ◌≢◌, ◌+◌, ◌-◌, ◌*◌, ◌/◌, ◌%◌, ◌<◌, ◌≤◌, ◌⊎◌, inl, inr, List, [], ◌∷◌, ◌++◌, length, take, drop, get_or, refl, sym, ◌∙◌, ap, subst, arith, length-append, length-drop}
use Rattle.std.proofs.lemmas.Bool.{cases_eq, cases_lt, false≢true}
use Rattle.std.proofs.lemmas.Grind.{same_number_lists}
use Rattle.std.proofs.lemmas.List.{take-append-drop, take_at, drop_at, length-take-le, get_or-take, get_or-drop, append-nil}
use Rattle.std.proofs.Math.Nat.{mul-mod_left}
use Rattle.std.specs.Bool.{IsTrue, Decides}
use Rattle.fr_model.specs.Words.{IsWord}
use Rattle.fr_model.specs.Rays.{repeated, ray_prefix, IsSameRay, IsCanonicalRay}
use Rattle.fr_model.proofs.TermLaws.{IsWord-append}
use Rattle.fr_model.proofs.LimitLaws.{canonical_ray_once}
use Rattle.fr_ray.specs.Rays.{IsBoundedRay}
use Rattle.fr_ray.specs.Forms.{IsPeriod, IsPrimitive, IsRolled, IsForm, IsLongRay}
use Rattle.fr_ray.proofs.PeriodLaws.{HasPeriod, HasPeriod-back, HasPeriod-later, HasPeriod-along, common_period, factor-le, same_from_periods}
use Rattle.fr_ray.proofs.RayLaws.{letter, letter_again, letter_before, letter_period, letter_listed, same_letters, same_from_letters, same_rounds, some_length}

pub IsWord-take : (d n : ℕ) (w : List ℕ) → IsWord d w → IsWord d (take n w)
IsWord-take d zero w h = tt
IsWord-take d (suc n) [] h = tt
IsWord-take d (suc n) (x ∷ w) h = (h.0, IsWord-take d n w h.1)

pub IsWord-drop : (d n : ℕ) (w : List ℕ) → IsWord d w → IsWord d (drop n w)
IsWord-drop d zero w h = h
IsWord-drop d (suc n) [] h = tt
IsWord-drop d (suc n) (x ∷ w) h = IsWord-drop d n w h.1

-- a word with a period is so many times its front
rounds_of : (k p : ℕ) (x v : List ℕ) → length x ≡ p → length v ≡ k * p → ((i : ℕ) → i < p → i < length v → get_or v i 0 ≡ get_or x i 0)
    → ((i : ℕ) → i + p < length v → get_or v (i + p) 0 ≡ get_or v i 0) → repeated x k ≡ v
rounds_of zero p x [] l e front again = refl
rounds_of zero p x (y ∷ v) l e front again = absurd (omega arith)
rounds_of (suc k) p x v l e front again =
    let size : length v ≡ p + k * p = omega arith in
    let taken : length (take p v) ≡ p = length-take-le p v (omega arith) in
    let left : length (drop p v) ≡ k * p = omega (arith, length-drop p v) in
    let first : x ≡ take p v = same_number_lists x (take p v) (l ∙ sym taken) (λ i h. sym (get_or-take p v i 0 (omega arith) ∙ front i (omega arith) (omega arith))) in
    let rest : repeated x k ≡ drop p v = rounds_of k p x (drop p v) l left
    (λ i a b. let turn : p + i ≡ i + p = omega arith in get_or-drop p v i 0 ∙ ap (λ j. get_or v j 0) turn ∙ again i (omega arith) ∙ front i a (omega arith))
    (λ i a. let turn : p + (i + p) ≡ (p + i) + p = omega arith in get_or-drop p v (i + p) 0 ∙ ap (λ j. get_or v j 0) turn ∙ again (p + i) (omega arith) ∙ sym (get_or-drop p v i 0)) in
    ap (λ a. a ++ repeated x k) first ∙ ap (λ a. take p v ++ a) rest ∙ take-append-drop p v

HasPeriod-at : (r : ℕ → ℕ) (n p m q : ℕ) → n ≡ m → p ≡ q → HasPeriod r n p → HasPeriod r m q
HasPeriod-at r n p m q e f h = let P : ℕ → Type 0 = λ a. HasPeriod r a q in let Q : ℕ → Type 0 = λ a. HasPeriod r n a in subst P e (subst Q f h)

-- a ray whose rounds are of a word with a period has that period
round_period : (u v : List ℕ) (p : ℕ) → 0 < length v → IsPeriod v p → HasPeriod (letter u v) (length u) p
round_period u v p s h =
    let x = take p v in
    let x_length : length x ≡ p = length-take-le p v (factor-le (length v) h.times p s h.whole) in
    let rounds : repeated x h.times ≡ v = rounds_of h.times p x v x_length h.whole (λ i a b. sym (get_or-take p v i 0 a)) h.again in
    let same : IsSameRay u x u v = λ n. same_rounds u x 0 h.times (omega (arith, h.some)) (some_times h.times h.whole) n ∙ ap (λ a. ray_prefix a (repeated x h.times) n) (append-nil u) ∙ ap (λ a. ray_prefix u a n) rounds in
    HasPeriod-along (letter u x) (letter u v) (length u) p (same_letters u x u v same)
    (HasPeriod-at (letter u x) (length u) (length x) (length u) p refl x_length (letter_again u x (omega (arith, h.some))))
  where
    some_times : (k : ℕ) → length v ≡ k * p → 0 < k
    some_times zero e = absurd (omega arith)
    some_times (suc k) e = omega arith

module _ (w : List ℕ) (start p b : ℕ) (inside : start < length w) (primitive : IsPrimitive (drop start w) p) (rolled : IsRolled w start p b) where
  whole_before : List ℕ
  whole_before = take start w

  whole_period : List ℕ
  whole_period = drop start w

  kept_before : List ℕ
  kept_before = take b w

  kept_period : List ℕ
  kept_period = take p (drop b w)

  fits : start + p ≤ length w
  fits = let h = primitive.period in omega (arith, length-drop start w, factor-le (length (drop start w)) h.times p (omega (arith, length-drop start w)) h.whole)

  length-whole_before : length whole_before ≡ start
  unfolding whole_before
  length-whole_before = length-take-le start w (omega arith)

  length-whole_period : length whole_period ≡ length w - start
  unfolding whole_period
  length-whole_period = length-drop start w

  pub length-form_before : length (take b w) ≡ b
  length-form_before = length-take-le b w (omega (arith, fits, rolled.within))

  pub length-form_period : length (take p (drop b w)) ≡ p
  length-form_period = length-take-le p (drop b w) (omega (arith, fits, rolled.within, length-drop b w))

  length-kept_before : length kept_before ≡ b
  unfolding kept_before
  length-kept_before = length-form_before

  length-kept_period : length kept_period ≡ p
  unfolding kept_period
  length-kept_period = length-form_period

  written : (i : ℕ) → i < length w → letter whole_before whole_period i ≡ get_or w i 0
  unfolding whole_before whole_period
  written i l = letter_listed w start i l

  -- the period holds from the start on, and from b on
  from_start : HasPeriod (letter whole_before whole_period) start p
  unfolding whole_period
  from_start = HasPeriod-at (letter whole_before whole_period) (length whole_before) p start p length-whole_before refl (round_period whole_before whole_period p (omega (arith, length-whole_period)) primitive.period)

  from_b : HasPeriod (letter whole_before whole_period) b p
  from_b = record {
    again = λ i l. elim (cases_lt i start) [
      | inl h ↦ written (i + p) (omega (arith, fits)) ∙ rolled.again i l h ∙ sym (written i (omega arith))
      | inr h ↦ from_start.again i h
    ];
  }

  form_again : HasPeriod (letter kept_before kept_period) b p
  form_again = HasPeriod-at (letter kept_before kept_period) (length kept_before) (length kept_period) b p length-kept_before length-kept_period (letter_again kept_before kept_period (omega (arith, length-kept_period, primitive.period.some)))

  form_written : (i : ℕ) → i < b + p → letter kept_before kept_period i ≡ get_or w i 0
  unfolding kept_before kept_period
  form_written i l = elim (cases_lt i b) [
    | inl h ↦ letter_before kept_before kept_period i (omega (arith, length-kept_before)) ∙ get_or-take b w i 0 h
    | inr h ↦
        let j : ℕ = i - b in
        let e : i ≡ length kept_before + j = omega (arith, length-kept_before) in
        let f : b + j ≡ i = omega arith in
        ap (letter kept_before kept_period) e ∙ letter_period kept_before kept_period j (omega (arith, length-kept_period)) ∙ get_or-take p (drop b w) j 0 (omega arith) ∙ get_or-drop b w j 0 ∙ ap (λ k. get_or w k 0) f
  ]

  letters_same : (i : ℕ) → letter whole_before whole_period i ≡ letter kept_before kept_period i
  letters_same i = same_from_periods (suc i) (letter whole_before whole_period) (letter kept_before kept_period) b p primitive.period.some from_b form_again (λ k l. written k (omega (arith, fits, rolled.within)) ∙ sym (form_written k l)) i (omega arith)

  kept_same_ray : IsSameRay whole_before whole_period kept_before kept_period
  kept_same_ray = same_from_letters whole_before whole_period kept_before kept_period (omega (arith, length-whole_period)) (omega (arith, length-kept_period, primitive.period.some)) letters_same

  -- the form is the ray that was written
  pub form_same : IsSameRay (take start w) (drop start w) (take b w) (take p (drop b w))
  unfolding whole_before whole_period kept_before kept_period
  form_same = kept_same_ray

  module _ (g h : List ℕ) (some : h ≢ []) (same : IsSameRay kept_before kept_period g h) where
    other : HasPeriod (letter whole_before whole_period) (length g) (length h)
    other = HasPeriod-along (letter g h) (letter whole_before whole_period) (length g) (length h) (λ i. sym (same_letters kept_before kept_period g h same i) ∙ sym (letters_same i)) (letter_again g h (some_length h some))

    least_beginning : b ≤ length g
    least_beginning = elim (cases_lt (length g) b) [
      | inr l ↦ l
      | inl l ↦
          let i : ℕ = b - 1 in
          let e : suc i ≡ b = omega arith in
          let back = HasPeriod-back (letter whole_before whole_period) (length g) (length h) b p (some_length h some) other from_b in
          absurd (rolled.stops i e (sym (written (i + p) (omega (arith, fits, rolled.within))) ∙ back.again i (omega arith) ∙ written i (omega (arith, fits, rolled.within))))
    ]

    smaller_period : (q : ℕ) → 0 < q → (k : ℕ) → p ≡ k * q → HasPeriod (letter whole_before whole_period) start q → IsPeriod (drop start w) q
    unfolding whole_period
    smaller_period q l k e r = record {
      some = l;
      times = primitive.period.times * k;
      whole = omega (arith, primitive.period.whole, ap (λ z. primitive.period.times * z) e);
      again = λ i m.
          let far : start + (i + q) < length w = omega (arith, length-drop start w) in
          let turn : start + (i + q) ≡ (start + i) + q = omega arith in
          get_or-drop start w (i + q) 0 ∙ sym (written (start + (i + q)) far) ∙ ap (letter whole_before whole_period) turn ∙ r.again (start + i) (omega arith) ∙ written (start + i) (omega arith) ∙ sym (get_or-drop start w i 0);
    }

    least_period : p ≤ length h
    least_period = elim (cases_lt (length h) p) [
      | inr l ↦ l
      | inl l ↦
          let n : ℕ = start + length g in
          let q = length h in
          let found = common_period (p + q) (letter whole_before whole_period) n p q (omega arith) primitive.period.some (some_length h some)
          (HasPeriod-later (letter whole_before whole_period) start n p (omega arith) from_start) (HasPeriod-later (letter whole_before whole_period) (length g) n q (omega arith) other) in
          let common = found.1 in
          let small : found.0 ≤ q = factor-le q common.more found.0 (some_length h some) common.second in
          absurd (primitive.least found.0 (omega arith)
          (smaller_period found.0 common.some common.times common.first (HasPeriod-back (letter whole_before whole_period) start p n found.0 primitive.period.some from_start common.period)))
    ]

  -- and it is canonical
  pub form_canonical : (d : ℕ) → IsWord d w → IsCanonicalRay d (take b w) (take p (drop b w))
  unfolding kept_before kept_period
  form_canonical d word = record {
    beginning = IsWord-take d b w word;
    period = IsWord-take d p (drop b w) (IsWord-drop d b w word);
    some = λ e. absurd (omega (arith, length-kept_period, ap length e, primitive.period.some));
    least_beginning = λ g h n s. rw length-form_before (least_beginning g h n s);
    primitive = λ g h n s. rw length-form_period (least_period g h n s);
  }

-- ---- each ray has such a form
-- whether so many letters come again
agree_or_not : (v : List ℕ) (q m : ℕ) → ((i : ℕ) → i < m → get_or v (i + q) 0 ≡ get_or v i 0) ⊎ ((i : ℕ) × (i < m) × (get_or v (i + q) 0 ≢ get_or v i 0))
agree_or_not v q zero = inl (λ i l. absurd (omega arith))
agree_or_not v q (suc m) = elim (agree_or_not v q m) [
  | inr c ↦ inr (c.0, omega (arith, c.1), c.2)
  | inl h ↦ elim (cases_eq (get_or v (m + q) 0) (get_or v m 0)) [
    | inr n ↦ inr (m, omega arith, n)
    | inl e ↦ inl (λ i l. elim (cases_lt i m) [
      | inl k ↦ h i k
      | inr k ↦ let f : m ≡ i = omega arith in let P : ℕ → Type 0 = λ j. get_or v (j + q) 0 ≡ get_or v j 0 in subst P f e
    ])
  ]
]

mod_times : (n k q : ℕ) → n ≡ k * q → n % q ≡ 0
mod_times n k q e = ap (λ m. m % q) e ∙ mul-mod_left k q

pub IsPeriod-from : (v : List ℕ) (q : ℕ) → 0 < q → length v % q ≡ 0 → ((i : ℕ) → i + q < length v → get_or v (i + q) 0 ≡ get_or v i 0) → IsPeriod v q
IsPeriod-from v q s e h = record { some = s; times = length v / q; whole = omega arith; again = h }

pub IsPeriod-mod : (v : List ℕ) (q : ℕ) → IsPeriod v q → length v % q ≡ 0
IsPeriod-mod v q h = mod_times (length v) h.times q h.whole

-- the test of a period by two parts of the word
pub IsPeriod-decides : (v : List ℕ) (q : ℕ) (r : Bool) → 0 < q → q ≤ length v → length v % q ≡ 0 → Decides r (take (length v - q) (drop q v) ≡ take (length v - q) v)
    → (IsTrue r → IsPeriod v q) × (IsPeriod v q → IsTrue r)
IsPeriod-decides v q r s l e h =
    let n : ℕ = length v - q in
    let turned : (i : ℕ) → i < n → get_or (take n (drop q v)) i 0 ≡ get_or v (i + q) 0 =
    λ i k. let turn : q + i ≡ i + q = omega arith in get_or-take n (drop q v) i 0 k ∙ get_or-drop q v i 0 ∙ ap (λ j. get_or v j 0) turn in
    let left : length (take n (drop q v)) ≡ n = length-take-le n (drop q v) (omega (arith, length-drop q v)) in
    let right : length (take n v) ≡ n = length-take-le n v (omega arith) in (
      λ t. IsPeriod-from v q s e (λ i k. let b : i < n = omega arith in sym (turned i b) ∙ ap (λ w. get_or w i 0) (h.0 t) ∙ get_or-take n v i 0 b),
      λ p. h.1 (same_number_lists (take n (drop q v)) (take n v) (left ∙ sym right) (λ i k. let b : i < n = omega arith in turned i b ∙ p.again i (omega arith) ∙ sym (get_or-take n v i 0 b))),
    )

period_or_not : (v : List ℕ) (q : ℕ) → 0 < q → IsPeriod v q ⊎ ¬ IsPeriod v q
period_or_not v q s = elim (cases_eq (length v % q) 0) [
  | inr n ↦ inr (λ h. n (IsPeriod-mod v q h))
  | inl e ↦ elim (agree_or_not v q (length v - q)) [
    | inl h ↦ inl (IsPeriod-from v q s e (λ i l. h i (omega arith)))
    | inr c ↦ inr (λ h. c.2 (h.again c.0 (omega (arith, c.1))))
  ]
]

primitive_from : (fuel q : ℕ) (v : List ℕ) → 0 < q → q + fuel ≡ length v → ((r : ℕ) → r < q → ¬ IsPeriod v r) → (p : ℕ) × IsPrimitive v p
primitive_from zero q v s e none = (q, record { period = record { some = s; times = 1; whole = omega arith; again = λ i l. absurd (omega arith) }; least = none })
primitive_from (suc fuel) q v s e none = elim (period_or_not v q s) [
  | inl h ↦ (q, record { period = h; least = none })
  | inr n ↦ primitive_from fuel (suc q) v (omega arith) (omega arith) (no_more v q none n)
]
  where
    no_more : (v : List ℕ) (q : ℕ) → ((r : ℕ) → r < q → ¬ IsPeriod v r) → ¬ IsPeriod v q → (r : ℕ) → r < suc q → ¬ IsPeriod v r
    no_more v q none n r l h = elim (cases_lt r q) [
      | inl k ↦ none r k h
      | inr k ↦ let f : r ≡ q = omega arith in let P : ℕ → Type 0 = λ j. IsPeriod v j in n (subst P f h)
    ]

pub primitive_exists : (v : List ℕ) → 0 < length v → (p : ℕ) × IsPrimitive v p
primitive_exists v l = primitive_from (length v - 1) 1 v (omega arith) (omega arith) (λ r k h. absurd (omega (arith, h.some)))

-- one letter more is rolled back
pub rolled_more : (w : List ℕ) (start p b : ℕ) → ((i : ℕ) → suc b ≤ i → i < start → get_or w (i + p) 0 ≡ get_or w i 0) → get_or w (b + p) 0 ≡ get_or w b 0
    → (i : ℕ) → b ≤ i → i < start → get_or w (i + p) 0 ≡ get_or w i 0
rolled_more w start p b h e i l k = elim (cases_eq i b) [
  | inl f ↦ let P : ℕ → Type 0 = λ j. get_or w (j + p) 0 ≡ get_or w j 0 in subst P (sym f) e
  | inr n ↦ h i (omega arith) k
]

rolled_from : (w : List ℕ) (start p b : ℕ) → b ≤ start → ((i : ℕ) → b ≤ i → i < start → get_or w (i + p) 0 ≡ get_or w i 0) → (c : ℕ) × IsRolled w start p c
rolled_from w start p zero l h = (zero, record { within = l; again = h; stops = λ i e. absurd (omega arith) })
rolled_from w start p (suc b) l h = elim (cases_eq (get_or w (b + p) 0) (get_or w b 0)) [
  | inl e ↦ rolled_from w start p b (omega arith) (rolled_more w start p b h e)
  | inr n ↦ (suc b, record { within = l; again = h; stops = λ i e f. let g : i ≡ b = omega arith in let P : ℕ → Type 0 = λ j. get_or w (j + p) 0 ≡ get_or w j 0 in n (subst P g f) })
]

-- two words are letters with a start
pub form_exists : (d : ℕ) (u v : List ℕ) → IsWord d u → IsWord d v → v ≢ [] → (before : List ℕ) × (period : List ℕ) × IsCanonicalRay d before period × IsSameRay u v before period
form_exists d u v h k n =
    let w = u ++ v in
    let start = length u in
    let inside : start < length w = omega (arith, length-append u v, some_length v n) in
    let front : take start w ≡ u = take_at u v start refl in
    let rest : drop start w ≡ v = drop_at u v start refl in
    let p = primitive_exists (drop start w) (omega (arith, length-drop start w)) in
    let b = rolled_from w start p.0 start (omega arith) (λ i l m. absurd (omega arith)) in (
      take b.0 w,
      take p.0 (drop b.0 w),
      form_canonical w start p.0 b.0 inside p.1 b.1 d (IsWord-append d u v h k),
      λ m. ap (λ x. ray_prefix x v m) (sym front) ∙ ap (λ y. ray_prefix (take start w) y m) (sym rest) ∙ form_same w start p.0 b.0 inside p.1 b.1 m,
    )

-- a form with more than 4096 letters
pub long_from_form : (d : ℕ) (w : List ℕ) (start p b : ℕ) → start < length w → IsWord d w → IsPrimitive (drop start w) p → IsRolled w start p b → 4096 < b + p → IsLongRay d (take start w) (drop start w)
long_from_form d w start p b inside word primitive rolled long = record {
  before = take b w;
  period = take p (drop b w);
  canonical = form_canonical w start p b inside primitive rolled d word;
  same = form_same w start p b inside primitive rolled;
  long = omega (arith, length-form_before w start p b inside primitive rolled, length-form_period w start p b inside primitive rolled);
}

-- a period with more than 4096 letters
pub long_from_period : (d : ℕ) (w : List ℕ) (start : ℕ) → start < length w → IsWord d w → ((p : ℕ) → IsPrimitive (drop start w) p → 4096 < p) → IsLongRay d (take start w) (drop start w)
long_from_period d w start inside word long =
    let period = primitive_exists (drop start w) (omega (arith, length-drop start w)) in
    let form = rolled_from w start period.0 start (omega arith) (λ i l k. absurd (omega arith)) in
    long_from_form d w start period.0 form.0 inside word period.1 form.1 (omega (arith, long period.0 period.1))

-- ---- rays are compared by their words
pub same_by_periods : (u v a b : List ℕ) (r : Bool) → IsCanonicalRay 8 u v → IsCanonicalRay 8 a b → u ≡ a → Decides r (v ≡ b) → (IsTrue r → IsSameRay u v a b) × (IsSameRay u v a b → IsTrue r)
same_by_periods u v a b r g h e k = (
  λ t n. ap (λ x. ray_prefix x v n) e ∙ ap (λ y. ray_prefix a y n) (k.0 t),
  λ s. k.1 (canonical_ray_once 8 u v a b g h s).1,
)

pub other_by_befores : (u v a b : List ℕ) (r : Bool) → IsCanonicalRay 8 u v → IsCanonicalRay 8 a b → r ≡ false → Decides r (u ≡ a) → (IsTrue r → IsSameRay u v a b) × (IsSameRay u v a b → IsTrue r)
other_by_befores u v a b r g h e k = (λ t. absurd (false≢true (sym e ∙ t)), λ s. k.1 (canonical_ray_once 8 u v a b g h s).0)

-- ---- what is kept of the form
pub bounded_form : (w : List ℕ) (start b p : ℕ) (before period : List ℕ) → start < length w → IsWord 8 w → IsForm w start b p → before ≡ take b w → period ≡ take p (drop b w) → IsBoundedRay (record { before = before; period = period })
bounded_form w start b p before period inside word form e f = record {
  canonical = rw (e, f) (form_canonical w start p b inside form.primitive form.rolled 8 word);
  most = omega (arith, ap length e, ap length f, length-form_before w start p b inside form.primitive form.rolled, length-form_period w start p b inside form.primitive form.rolled, form.most);
}

pub kept_same : (w : List ℕ) (start b p : ℕ) (before period : List ℕ) → start < length w → IsForm w start b p → before ≡ take b w → period ≡ take p (drop b w) → IsSameRay (take start w) (drop start w) before period
kept_same w start b p before period inside form e f n =
    form_same w start p b inside form.primitive form.rolled n ∙ ap (λ x. ray_prefix x (take p (drop b w)) n) (sym e) ∙ ap (λ y. ray_prefix before y n) (sym f)

pub kept_canonical : (w : List ℕ) (start b p : ℕ) (before period : List ℕ) → start < length w → IsForm w start b p → before ≡ take b w → period ≡ take p (drop b w) → (d : ℕ) → IsWord d w → IsCanonicalRay d before period
kept_canonical w start b p before period inside form e f d word = rw (e, f) (form_canonical w start p b inside form.primitive form.rolled d word)

-- few letters have no long form
pub few_are_not_long : (d : ℕ) (w : List ℕ) (start : ℕ) → start < length w → length w ≤ 4096 → IsLongRay d (take start w) (drop start w) → ⊥
few_are_not_long d w start inside few h =
    let left : length (drop start w) ≡ length w - start = length-drop start w in
    let some : drop start w ≢ [] = λ e. absurd (omega (arith, ap length e)) in
    let back : IsSameRay h.before h.period (take start w) (drop start w) = λ n. sym (h.same n) in
    omega (arith, h.long, h.canonical.least_beginning (take start w) (drop start w) some back, h.canonical.primitive (take start w) (drop start w) some back, length-take-le start w (omega arith))

-- Ranks and levels of states, and what they tell: an upper bound on the words that lead to a live state, that no state has two words of one length back, and that no chain is longer than the level.
use Rattle.std.proofs.Common.{ℕ, zero, suc, ◌≡◌, ◌≢◌, ◌+◌, ◌*◌, ◌^◌, ◌<◌, ◌≤◌, ◌⊎◌, inl, inr, Bool, true, false, List, [], ◌∷◌, ◌++◌, length, refl, sym, ◌∙◌, ap, arith}
use Rattle.std.proofs.lemmas.Bool.{cases_order}
use Rattle.std.proofs.Math.Nat.{mul-le-mul_left, pow-succ', pow-zero, pow-le-pow_left, pow-le-pow_right, one-le-pow}
use Rattle.fr_model.specs.Words.{IsLetter, IsWord}
use Rattle.fr_model.specs.Automata.{State, next_state, state_after}
use Rattle.fr_model.specs.Activity.{Link}
use Rattle.fr_model.proofs.TermLaws.{IsWord-append}
use Rattle.fr_growth.specs.Walks.{sum_letters, IsStateChain}
use Rattle.fr_growth.proofs.WalkLaws.{live_words, parts, state_after-append}

-- ---- sums over letters
pub sum_letters-le : (f : ℕ → ℕ) (k c : ℕ) → ((x : ℕ) → IsLetter k x → f x ≤ c) → sum_letters f k ≤ k * c
sum_letters-le f zero c h = omega arith
sum_letters-le f (suc k) c h = omega (arith, sum_letters-le f k c (λ x l. h x (l.0, omega (arith, l.1))), h (suc k) (omega arith, omega arith))

pub sum_letters-le_but_one : (f : ℕ → ℕ) (k a c y : ℕ) → IsLetter k y → f y ≤ a → ((x : ℕ) → IsLetter k x → x ≢ y → f x ≤ c) → sum_letters f k + c ≤ a + k * c
sum_letters-le_but_one f zero a c y l g h = absurd (omega (arith, l.0, l.1))
sum_letters-le_but_one f (suc k) a c y l g h = elim (cases_order y (suc k)) [
  | inl e ↦
      let last : f (suc k) ≤ a = rw (← e) g in
      omega (arith, last, sum_letters-le f k c (λ x m. h x (m.0, omega (arith, m.1)) (λ s. omega (arith, m.1))))
  | inr o ↦ elim o [
    | inl m ↦
        let last = h (suc k) (omega arith, omega arith) (λ s. omega arith) in
        omega (arith, last, sum_letters-le_but_one f k a c y (l.0, omega arith) g (λ x m' n. h x (m'.0, omega (arith, m'.1)) n))
    | inr m ↦ absurd (omega (arith, l.1))
  ]
]

-- ---- the bounds of the levels: d to the n below r letters and then none; d to the n up to r letters; and above
abbrev pub short : ℕ → ℕ → ℕ → ℕ
short d zero n = 0
short d (suc r) zero = 1
short d (suc r) (suc n) = d * short d r n

abbrev pub flat : ℕ → ℕ → ℕ → ℕ
flat d zero n = 1
flat d (suc r) zero = 1
flat d (suc r) (suc n) = d * flat d r n

abbrev pub bound : ℕ → ℕ → ℕ → ℕ → ℕ
bound d zero r n = short d r n
bound d (suc zero) r n = flat d r n
bound d (suc (suc k)) r n = (d + 1) ^ r * (n + 1) ^ suc k

short-mono : (d r q n : ℕ) → r ≤ q → short d r n ≤ short d q n
short-mono d zero q n h = omega arith
short-mono d (suc r) zero n h = absurd (omega arith)
short-mono d (suc r) (suc q) zero h = omega arith
short-mono d (suc r) (suc q) (suc n) h = mul-le-mul_left d (short-mono d r q n (omega arith))

pub flat-pos : (d r n : ℕ) → 1 ≤ d → 1 ≤ flat d r n
flat-pos d zero n p = omega arith
flat-pos d (suc r) zero p = omega arith
flat-pos d (suc r) (suc n) p = omega (arith, mul-le-mul_left d (flat-pos d r n p))

flat-mono : (d r q n : ℕ) → 1 ≤ d → r ≤ q → flat d r n ≤ flat d q n
flat-mono d zero q n p h = flat-pos d q n p
flat-mono d (suc r) zero n p h = absurd (omega arith)
flat-mono d (suc r) (suc q) zero p h = omega arith
flat-mono d (suc r) (suc q) (suc n) p h = mul-le-mul_left d (flat-mono d r q n p (omega arith))

short-flat : (d r n : ℕ) → 1 ≤ d → short d r n ≤ flat d r n
short-flat d zero n p = omega arith
short-flat d (suc r) zero p = omega arith
short-flat d (suc r) (suc n) p = mul-le-mul_left d (short-flat d r n p)

pub flat-pow : (d r n : ℕ) → flat d r n ≤ (d + 1) ^ r
flat-pow d zero n = rw (pow-zero (d + 1)) (omega arith)
flat-pow d (suc r) zero = one-le-pow (suc r) (d + 1) (omega arith)
flat-pow d (suc r) (suc n) = rw (pow-succ' (d + 1) r) (omega (arith, mul-le-mul_left (d + 1) (flat-pow d r n)))

flat-turn : (d r n : ℕ) → 1 ≤ d → flat d (suc r) n + d * short d r n ≤ flat d (suc r) (suc n) + short d r n
flat-turn d zero zero p = omega arith
flat-turn d zero (suc n) p = omega arith
flat-turn d (suc r) zero p = omega (arith, flat-pos d (suc r) zero p)
flat-turn d (suc r) (suc n) p = omega (arith, mul-le-mul_left d (flat-turn d r n p))

flat_below : (d r q n k : ℕ) → r ≤ q → flat d r n ≤ (d + 1) ^ q * (n + 1) ^ k
flat_below d r q n k h =
    omega (arith, flat-pow d r n, pow-le-pow_right {n = d + 1} (omega arith) {i = r} {j = q} h, mul-le-mul_left ((d + 1) ^ q) (one-le-pow k (n + 1) (omega arith)))

pub bound-mono : (d l m r q n : ℕ) → 1 ≤ d → l ≤ m → r ≤ q → bound d l r n ≤ bound d m q n
bound-mono d zero zero r q n p h g = short-mono d r q n g
bound-mono d zero (suc zero) r q n p h g = omega (arith, short-mono d r q n g, short-flat d q n p)
bound-mono d zero (suc (suc k)) r q n p h g = omega (arith, short-flat d r n p, flat_below d r q n (suc k) g)
bound-mono d (suc l) zero r q n p h g = absurd (omega arith)
bound-mono d (suc zero) (suc zero) r q n p h g = flat-mono d r q n p g
bound-mono d (suc zero) (suc (suc k)) r q n p h g = flat_below d r q n (suc k) g
bound-mono d (suc (suc l)) (suc zero) r q n p h g = absurd (omega arith)
bound-mono d (suc (suc l)) (suc (suc k)) r q n p h g =
    let a = pow-le-pow_right {n = d + 1} (omega arith) {i = r} {j = q} g in
    let b = pow-le-pow_right {n = n + 1} (omega arith) {i = suc l} {j = suc k} (omega arith) in
    omega (arith, mul-le-mul_left ((n + 1) ^ suc l) a, mul-le-mul_left ((d + 1) ^ q) b)

pub bound-fall : (d l r n : ℕ) → 1 ≤ d → d * bound d l r n ≤ bound d l (suc r) (suc n)
bound-fall d zero r n p = omega arith
bound-fall d (suc zero) r n p = omega arith
bound-fall d (suc (suc k)) r n p =
    let a = pow-le-pow_left {n = n + 1} {m = suc n + 1} (omega arith) (suc k) in
    rw (pow-succ' (d + 1) r) (omega (arith, mul-le-mul_left ((d + 1) * (d + 1) ^ r) a))

pub bound-turn : (d l r n : ℕ) → 1 ≤ d → bound d (suc l) (suc r) n + d * bound d l r n ≤ bound d (suc l) (suc r) (suc n) + bound d l r n
bound-turn d zero r n p = flat-turn d r n p
bound-turn d (suc zero) r n p =
    let f = mul-le-mul_left d (flat-pow d r n) in
    rw (pow-succ' (d + 1) r, pow-succ' (n + 1) 0, pow-succ' (suc n + 1) 0, pow-zero (n + 1), pow-zero (suc n + 1)) (omega (arith, f))
bound-turn d (suc (suc k)) r n p =
    let q = (d + 1) ^ r in
    let a = (n + 1) ^ suc k in
    let b = (suc n + 1) ^ suc k in
    let ab : a ≤ b = pow-le-pow_left {n = n + 1} {m = suc n + 1} (omega arith) (suc k) in
    rw (pow-succ' (d + 1) r, pow-succ' (n + 1) (suc k), pow-succ' (suc n + 1) (suc k)) (omega (arith, mul-le-mul_left (((d + 1) * q) * (n + 2)) ab))

-- ---- ranks and levels. From a state that is not dead each letter lowers the rank, or one letter keeps rank and level and each other letter lowers both
abbrev pub Falls : ℕ → List State → (ℕ → Bool) → (ℕ → ℕ) → (ℕ → ℕ) → ℕ → Type 0
Falls d qs dead rank level s = (x : ℕ) → IsLetter d x → (dead (next_state qs s x) ≡ true) ⊎ ((rank (next_state qs s x) < rank s) × (level (next_state qs s x) ≤ level s))

abbrev pub Turns : ℕ → List State → (ℕ → Bool) → (ℕ → ℕ) → (ℕ → ℕ) → ℕ → Type 0
Turns d qs dead rank level s =
    (y : ℕ) × IsLetter d y × (rank (next_state qs s y) ≤ rank s) × (level (next_state qs s y) ≤ level s) × (0 < level s)
    × ((x : ℕ) → IsLetter d x → x ≢ y → (dead (next_state qs s x) ≡ true) ⊎ ((rank (next_state qs s x) < rank s) × (level (next_state qs s x) < level s)))

pub record IsLayered (d : ℕ) (qs : List State) (dead : ℕ → Bool) (rank level : ℕ → ℕ) : Type 0 where
  pub letters : 1 ≤ d
  pub dead_stays : (s x : ℕ) → s < length qs → IsLetter d x → dead s ≡ true → dead (next_state qs s x) ≡ true
  pub below : (s x : ℕ) → s < length qs → IsLetter d x → next_state qs s x < length qs
  pub least : (s : ℕ) → s < length qs → dead s ≡ false → 1 ≤ rank s
  pub most : (s : ℕ) → s < length qs → rank s ≤ length qs
  pub step : (s : ℕ) → s < length qs → dead s ≡ false → Falls d qs dead rank level s ⊎ Turns d qs dead rank level s

abbrev DeadOrLive : Bool → Type 0
DeadOrLive b = (b ≡ true) ⊎ (b ≡ false)

pub dead_or_live : (b : Bool) → (b ≡ true) ⊎ (b ≡ false)
dead_or_live true = inl refl
dead_or_live false = inr refl

module _ (d : ℕ) (qs : List State) (dead : ℕ → Bool) (rank level : ℕ → ℕ) (g : IsLayered d qs dead rank level) where
  pub live_words-dead : (n s : ℕ) → s < length qs → dead s ≡ true → live_words d qs dead n s ≡ 0
  live_words-dead zero s l e = rw e refl
  live_words-dead (suc n) s l e =
      let none : sum_letters (λ x. live_words d qs dead n (next_state qs s x)) d ≤ d * 0 =
      sum_letters-le (λ x. live_words d qs dead n (next_state qs s x)) d 0 (λ x k. omega (arith, live_words-dead n (next_state qs s x) (g.below s x l k) (g.dead_stays s x l k e))) in
      omega (arith, none)

  -- ---- the upper bound
  at_zero : (k r : ℕ) → 1 ≤ r → 1 ≤ bound d k r 0
  at_zero zero zero p = absurd (omega arith)
  at_zero zero (suc r) p = omega arith
  at_zero (suc zero) r p = flat-pos d r 0 g.letters
  at_zero (suc (suc k)) r p = omega (arith, mul-le-mul_left ((d + 1) ^ r) (one-le-pow (suc k) (0 + 1) (omega arith)), one-le-pow r (d + 1) (omega arith))

  module _ (n s : ℕ) (l : s < length qs) (each_le : (s' : ℕ) → s' < length qs → live_words d qs dead n s' ≤ bound d (level s') (rank s') n) where
    next_le : (x k r : ℕ) → IsLetter d x → (dead (next_state qs s x) ≡ true) ⊎ ((rank (next_state qs s x) ≤ r) × (level (next_state qs s x) ≤ k)) → live_words d qs dead n (next_state qs s x) ≤ bound d k r n
    next_le x k r m (inl e) = omega (arith, live_words-dead n (next_state qs s x) (g.below s x l m) e)
    next_le x k r m (inr h) = omega (arith, each_le (next_state qs s x) (g.below s x l m), bound-mono d (level (next_state qs s x)) k (rank (next_state qs s x)) r n g.letters h.1 h.0)

    turn_le : (k r : ℕ) → level s ≡ suc k → rank s ≡ suc r → Turns d qs dead rank level s → live_words d qs dead (suc n) s ≤ bound d (suc k) (suc r) (suc n)
    turn_le k r ek er t =
        let top = next_le t.0 (suc k) (suc r) t.1 (inr (omega (arith, t.2), omega (arith, t.3))) in
        let rest : (x : ℕ) → IsLetter d x → x ≢ t.0 → live_words d qs dead n (next_state qs s x) ≤ bound d k r n =
        λ x m ne. next_le x k r m (elim (t.5 x m ne) [ inl e ↦ inl e | inr h ↦ inr (omega (arith, h.0), omega (arith, h.1)) ]) in
        let all = sum_letters-le_but_one (λ x. live_words d qs dead n (next_state qs s x)) d (bound d (suc k) (suc r) n) (bound d k r n) t.0 t.1 top rest in
        omega (arith, all, bound-turn d k r n g.letters)

    level_suc : (k : ℕ) → 0 < k → (j : ℕ) × (k ≡ suc j)
    level_suc zero h = absurd (omega arith)
    level_suc (suc k) h = (k, refl)

    step_le : (r : ℕ) → 1 ≤ r → rank s ≡ r → Falls d qs dead rank level s ⊎ Turns d qs dead rank level s → live_words d qs dead (suc n) s ≤ bound d (level s) r (suc n)
    step_le zero p er h = absurd (omega arith)
    step_le (suc r) p er (inl h) =
        let each : (x : ℕ) → IsLetter d x → live_words d qs dead n (next_state qs s x) ≤ bound d (level s) r n =
        λ x m. next_le x (level s) r m (elim (h x m) [ inl e ↦ inl e | inr h ↦ inr (omega (arith, h.0), h.1) ]) in
        omega (arith, sum_letters-le (λ x. live_words d qs dead n (next_state qs s x)) d (bound d (level s) r n) each, bound-fall d (level s) r n g.letters)
    step_le (suc r) p er (inr t) =
        let k = level_suc (level s) t.4 in
        rw (k.1) (turn_le k.0 r k.1 er t)

  pub live_words-le : (n s : ℕ) → s < length qs → live_words d qs dead n s ≤ bound d (level s) (rank s) n
  live_words-le zero s l = elim (dead_or_live (dead s)) [
    | inl e ↦ rw e (omega arith)
    | inr e ↦ rw e (at_zero (level s) (rank s) (g.least s l e))
  ]
  live_words-le (suc n) s l = elim (dead_or_live (dead s)) [
    | inl e ↦ omega (arith, live_words-dead (suc n) s l e)
    | inr e ↦ step_le n s l (live_words-le n) (rank s) (g.least s l e) refl (g.step s l e)
  ]

  -- with the number of states for the rank
  pub live_words-le_polynomial : (n s k : ℕ) → s < length qs → level s ≡ suc k → live_words d qs dead n s ≤ (d + 1) ^ length qs * (n + 1) ^ k
  live_words-le_polynomial n s zero l e =
      omega (arith, rw e at (live_words-le n s l), flat_below d (rank s) (length qs) n 0 (g.most s l))
  live_words-le_polynomial n s (suc k) l e =
      let a = pow-le-pow_right {n = d + 1} (omega arith) {i = rank s} {j = length qs} (g.most s l) in
      let b = rw e at (live_words-le n s l) in
      omega (arith, b, mul-le-mul_left ((n + 1) ^ suc k) a)

  short-end : (r n : ℕ) → r ≤ n → short d r n ≡ 0
  short-end zero n h = refl
  short-end (suc r) zero h = absurd (omega arith)
  short-end (suc r) (suc n) h = omega (arith, ap (λ z. d * z) (short-end r n (omega arith)))

  pub live_words-end : (n s : ℕ) → s < length qs → level s ≡ 0 → rank s ≤ n → live_words d qs dead n s ≡ 0
  live_words-end n s l e h = omega (arith, rw e at (live_words-le n s l), short-end (rank s) n h)

  -- ---- along a word rank and level do not grow
  pub state_after-below : (s : ℕ) (w : List ℕ) → s < length qs → IsWord d w → state_after qs s w < length qs
  state_after-below s [] l h = l
  state_after-below s (x ∷ w) l h = state_after-below (next_state qs s x) w (g.below s x l h.0) h.1

  pub state_after-dead : (s : ℕ) (w : List ℕ) → s < length qs → IsWord d w → dead s ≡ true → dead (state_after qs s w) ≡ true
  state_after-dead s [] l h e = e
  state_after-dead s (x ∷ w) l h e = state_after-dead (next_state qs s x) w (g.below s x l h.0) h.1 (g.dead_stays s x l h.0 e)

  pub live_before : (s : ℕ) (w : List ℕ) → s < length qs → IsWord d w → dead (state_after qs s w) ≡ false → dead s ≡ false
  live_before s w l h e = elim (dead_or_live (dead s)) [ inl r ↦ absurd (apart_bools (sym (state_after-dead s w l h r) ∙ e)) | inr r ↦ r ]
    where
      apart_bools : true ≡ false → ⊥
      apart_bools e = cc

  next_le_here : (s x : ℕ) → s < length qs → IsLetter d x → dead s ≡ false → (dead (next_state qs s x) ≡ true) ⊎ ((rank (next_state qs s x) ≤ rank s) × (level (next_state qs s x) ≤ level s))
  next_le_here s x l h e = elim (g.step s l e) [
    | inl f ↦ elim (f x h) [ inl r ↦ inl r | inr r ↦ inr (omega (arith, r.0), r.1) ]
    | inr t ↦ elim (cases_order x t.0) [
      | inl r ↦ inr (rw r t.2, rw r t.3)
      | inr o ↦ elim (t.5 x h (elim o [ inl k ↦ (λ r. omega arith) | inr k ↦ (λ r. omega arith) ])) [ inl r ↦ inl r | inr r ↦ inr (omega (arith, r.0), omega (arith, r.1)) ]
    ]
  ]

  pub along_le : (s : ℕ) (w : List ℕ) → s < length qs → IsWord d w → dead (state_after qs s w) ≡ false → (rank (state_after qs s w) ≤ rank s) × (level (state_after qs s w) ≤ level s)
  along_le s [] l h e = (omega arith, omega arith)
  along_le s (x ∷ w) l h e =
      let s' = next_state qs s x in
      let l' = g.below s x l h.0 in
      let r = along_le s' w l' h.1 e in
      elim (next_le_here s x l h.0 (live_before s (x ∷ w) l h e)) [
        | inl dd ↦ absurd (two (sym (state_after-dead s' w l' h.1 dd) ∙ e))
        | inr q ↦ (omega (arith, r.0, q.0), omega (arith, r.1, q.1))
      ]
    where
      two : true ≡ false → ⊥
      two e = cc

  -- a letter from which a word leads back to s does not lower the rank
  keeps_rank : (s x : ℕ) (v : List ℕ) → s < length qs → IsLetter d x → IsWord d v → dead s ≡ false → state_after qs (next_state qs s x) v ≡ s
      → (dead (next_state qs s x) ≡ true) ⊎ (rank (next_state qs s x) < rank s) → ⊥
  keeps_rank s x v l h k e back (inl r) = two (sym (state_after-dead (next_state qs s x) v (g.below s x l h) k r) ∙ ap dead back ∙ e)
    where
      two : true ≡ false → ⊥
      two e = cc
  keeps_rank s x v l h k e back (inr r) =
      let a = along_le (next_state qs s x) v (g.below s x l h) k (ap dead back ∙ e) in
      omega (arith, r, a.0, ap rank back)

  -- so it is the letter at which s turns
  pub turns_at : (s x : ℕ) (v : List ℕ) → s < length qs → IsLetter d x → IsWord d v → dead s ≡ false → state_after qs (next_state qs s x) v ≡ s
      → Falls d qs dead rank level s ⊎ Turns d qs dead rank level s → (t : Turns d qs dead rank level s) × (x ≡ t.0)
  turns_at s x v l h k e back (inl f) = absurd (keeps_rank s x v l h k e back (elim (f x h) [ inl r ↦ inl r | inr r ↦ inr r.0 ]))
  turns_at s x v l h k e back (inr t) = elim (cases_order x t.0) [
    | inl r ↦ (t, r)
    | inr o ↦ absurd (keeps_rank s x v l h k e back (elim (t.5 x h (elim o [ inl k ↦ (λ r. omega arith) | inr k ↦ (λ r. omega arith) ])) [ inl r ↦ inl r | inr r ↦ inr r.0 ]))
  ]

  turns_once : (s x y : ℕ) (v w : List ℕ) → s < length qs → IsLetter d x → IsLetter d y → IsWord d v → IsWord d w → dead s ≡ false → state_after qs (next_state qs s x) v ≡ s
      → state_after qs (next_state qs s y) w ≡ s → Falls d qs dead rank level s ⊎ Turns d qs dead rank level s → x ≡ y
  turns_once s x y v w l h k a b e p q (inl f) = absurd (keeps_rank s x v l h a e p (elim (f x h) [ inl r ↦ inl r | inr r ↦ inr r.0 ]))
  turns_once s x y v w l h k a b e p q (inr t) = at_turn s x v l h a e p t ∙ sym (at_turn s y w l k b e q t)
    where
      at_turn : (s x : ℕ) (v : List ℕ) → s < length qs → IsLetter d x → IsWord d v → dead s ≡ false → state_after qs (next_state qs s x) v ≡ s → (t : Turns d qs dead rank level s) → x ≡ t.0
      at_turn s x v l h k e back t = elim (cases_order x t.0) [
        | inl r ↦ r
        | inr o ↦ absurd (keeps_rank s x v l h k e back (elim (t.5 x h (elim o [ inl k ↦ (λ r. omega arith) | inr k ↦ (λ r. omega arith) ])) [ inl r ↦ inl r | inr r ↦ inr r.0 ]))
      ]

  -- ---- no state that is not dead has two words back that part
  two_backs : (h s : ℕ) (p u v : List ℕ) → s < length qs → h < length qs → dead h ≡ false → IsWord d p → IsWord d u → IsWord d v → state_after qs h p ≡ s → state_after qs s u ≡ h → state_after qs s v ≡ h → parts u v → ⊥
  two_backs h s p [] v l m e a b c i j k q = q
  two_backs h s p (x ∷ u) [] l m e a b c i j k q = q
  two_backs h s p (x ∷ u) (y ∷ v) l m e a b c i j k (inl ne) =
      let live = live_before s (x ∷ u) l b (ap dead j ∙ e) in
      ne (turns_once s x y (u ++ p) (v ++ p) l b.0 c.0 (IsWord-append d u p b.1 a) (IsWord-append d v p c.1 a) live
      (state_after-append qs (next_state qs s x) u p ∙ ap (λ z. state_after qs z p) j ∙ i)
      (state_after-append qs (next_state qs s y) v p ∙ ap (λ z. state_after qs z p) k ∙ i) (g.step s l live))
  two_backs h s p (x ∷ u) (y ∷ v) l m e a b c i j k (inr q) =
      let at : state_after qs h (p ++ x ∷ []) ≡ next_state qs s x = state_after-append qs h p (x ∷ []) ∙ ap (λ z. next_state qs z x) i in
      let k' : state_after qs (next_state qs s x) v ≡ h = ap (λ z. state_after qs (next_state qs s z) v) q.0 ∙ k in
      two_backs h (next_state qs s x) (p ++ x ∷ []) u v (g.below s x l b.0) m e (IsWord-append d p (x ∷ []) a (b.0, tt)) b.1 c.1 at j k' q.1

  pub no_two_backs : (h : ℕ) (u v : List ℕ) → h < length qs → dead h ≡ false → IsWord d u → IsWord d v → state_after qs h u ≡ h → state_after qs h v ≡ h → parts u v → ⊥
  no_two_backs h u v l e a b i j q = two_backs h h [] u v l l e tt a b refl i j q

  -- ---- no chain is longer than the level
  abbrev pub Back : ℕ → ℕ → Type 0
  Back s t = (v : List ℕ) × IsWord d v × (state_after qs t v ≡ s)

  back_or_lower : (s : ℕ) (c w : List ℕ) → s < length qs → dead s ≡ false → c ≢ [] → IsWord d c → state_after qs s c ≡ s → IsWord d w → dead (state_after qs s w) ≡ false
      → Back s (state_after qs s w) ⊎ (level (state_after qs s w) < level s)
  back_or_lower s c [] l e n a back b live = inl ([], tt, refl)
  back_or_lower s [] (x ∷ w) l e n a back b live = absurd (n refl)
  back_or_lower s (y ∷ c) (x ∷ w) l e n a back b live =
      let s' = next_state qs s x in
      let l' = g.below s x l b.0 in
      let live' = live_before s' w l' b.1 live in
      elim (cases_order x y) [
        | inl same ↦
            let back' : state_after qs s' c ≡ s = ap (λ z. state_after qs (next_state qs s z) c) same ∙ back in
            let round : state_after qs s' (c ++ x ∷ []) ≡ s' = state_after-append qs s' c (x ∷ []) ∙ ap (λ z. next_state qs z x) back' in
            elim (back_or_lower s' (c ++ x ∷ []) w l' live' (not_empty c x) (IsWord-append d c (x ∷ []) a.1 (b.0, tt)) round b.1 live) [
              | inl q ↦ inl (q.0 ++ c, IsWord-append d q.0 c q.1 a.1, state_after-append qs (state_after qs s' w) q.0 c ∙ ap (λ z. state_after qs z c) q.2 ∙ back')
              | inr q ↦ inr (omega (arith, q, (along_le s (x ∷ []) l (b.0, tt) live').1))
            ]
        | inr o ↦
            let t = turns_at s y c l a.0 a.1 e back (g.step s l e) in
            let ne : x ≢ t.0.0 = λ r. differ x y o (r ∙ sym t.1) in
            inr (elim (t.0.5 x b.0 ne) [
              | inl r ↦ absurd (two (sym r ∙ live'))
              | inr r ↦ omega (arith, r.1, (along_le s' w l' b.1 live).1)
            ])
      ]
    where
      two : true ≡ false → ⊥
      two e = cc

      not_empty : (c : List ℕ) (x : ℕ) → c ++ x ∷ [] ≢ []
      not_empty [] x e = cc
      not_empty (y ∷ c) x e = cc

      differ : (x y : ℕ) → (x < y) ⊎ (y < x) → x ≢ y
      differ x y (inl h) e = omega arith
      differ x y (inr h) e = omega arith

  head_le : (s : ℕ) (l : Link) (ls : List Link) → s < length qs → IsStateChain d qs dead s (l ∷ ls) → length (l ∷ ls) ≤ level (state_after qs s l.at)
  head_le s l [] b ch = some_level (state_after qs s l.at) l.back (state_after-below s l.at b ch.0) ch.1 ch.2 ch.3 ch.4
    where
      some_level : (h : ℕ) (c : List ℕ) → h < length qs → IsWord d c → c ≢ [] → dead h ≡ false → state_after qs h c ≡ h → 1 ≤ level h
      some_level h [] m v n e back = absurd (n refl)
      some_level h (y ∷ c) m v n e back = let t = turns_at h y c m v.0 v.1 e back (g.step h m e) in omega (arith, t.0.4)
  head_le s l (m ∷ ms) b ch =
      let h = state_after qs s l.at in
      let below : h < length qs = state_after-below s l.at b ch.0 in
      let rest = head_le h m ms below ch.6 in
      elim (back_or_lower h l.back m.at below ch.3 ch.2 ch.1 ch.4 ch.6.0 ch.6.3) [
        | inl q ↦ absurd (ch.5 q.0 q.1 q.2)
        | inr q ↦ omega (arith, q, rest)
      ]

  pub chain_le : (s : ℕ) (ls : List Link) → s < length qs → IsStateChain d qs dead s ls → length ls ≤ level s
  chain_le s [] b ch = omega arith
  chain_le s (l ∷ ls) b ch = omega (arith, head_le s l ls b ch, (along_le s l.at b ch.0 ch.3).1)

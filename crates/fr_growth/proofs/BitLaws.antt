-- Sets of numbers as words of bits.
use Rattle.std.proofs.Common.{ℕ, zero, suc, ◌≡◌, ◌≢◌, ◌==◌, ◌*◌, ◌/◌, ◌%◌, ◌^◌, ◌<◌, inl, inr, ◌||◌, ◌≤◌, if◌then◌else◌, Bool, true, false, List, length, replicate, get_or, refl, sym, ◌∙◌, ap, arith, w64, get_or-set_same, get_or-set_other, eq-eqb}
use Rattle.std.proofs.Math.ListN.{set}
use Rattle.std.specs.Int.RustNames.{bit_or}
use Rattle.std.proofs.lemmas.Nat.Bits.{bit_at_set_same, bit_at_set_other, bit_at-zero}
use Rattle.std.proofs.lemmas.List.{get_or-replicate, get_or_past, length-replicate}
use Rattle.std.proofs.lemmas.Bool.{cases_order, cases_lt, ne_eqb}
use Rattle.fr_growth.specs.Bits.{has_bit, rank_of}

or_true : (b : Bool) → (b || true) ≡ true
or_true true = refl
or_true false = refl

or_false : (b : Bool) → (b || false) ≡ b
or_false true = refl
or_false false = refl

same_eqb : (a b : ℕ) → a ≡ b → (a == b) ≡ true
same_eqb a b e = eq-eqb a b e

pub put_bit : (row : List ℕ) (t : ℕ) → length row ≡ 16 → t < 1024 → (u : ℕ) → u < 1024
    → has_bit (set row (t / 64) (bit_or (get_or row (t / 64) 0) (1 * 2 ^ (t % 64) % 2 ^ 64))) u ≡ (has_bit row u || u == t)
unfolding has_bit
put_bit row t e l u m = elim (cases_order (u / 64) (t / 64)) [
  | inl same ↦
      let b : t / 64 < length row = omega arith in
      elim (cases_order (u % 64) (t % 64)) [
        | inl bits ↦ rw (same, bits, get_or-set_same, bit_at_set_same w64 (get_or row (t / 64) 0) (t % 64) (omega arith), same_eqb u t (omega arith)) (sym (or_true _))
        | inr o ↦
            let ne : u % 64 ≢ t % 64 = elim o [ inl h ↦ (λ r. omega arith) | inr h ↦ (λ r. omega arith) ] in
            rw (same, get_or-set_same, bit_at_set_other w64 (get_or row (t / 64) 0) (t % 64) (omega arith) (u % 64) ne, ne_eqb u t (λ r. ne (ap (λ z. z % 64) r))) (sym (or_false _))
      ]
  | inr o ↦
      let ne : u / 64 ≢ t / 64 = elim o [ inl h ↦ (λ r. omega arith) | inr h ↦ (λ r. omega arith) ] in
      rw (get_or-set_other, ne_eqb u t (λ r. ne (ap (λ z. z / 64) r))) (sym (or_false _))
]

-- ---- how many numbers a set has
step-le : (a b : Bool) → (a ≡ true → b ≡ true) → (if a then 1 else 0) ≤ (if b then 1 else 0)
step-le true b h = rw (h refl) (omega arith)
step-le false b h = omega arith

pub rank-le : (row : List ℕ) (n : ℕ) → rank_of row n ≤ n
rank-le row zero = omega arith
rank-le row (suc n) = omega (arith, rank-le row n, step-le (has_bit row n) true (λ e. refl))

rank-mono : (a b : List ℕ) (n : ℕ) → ((t : ℕ) → t < n → has_bit a t ≡ true → has_bit b t ≡ true) → rank_of a n ≤ rank_of b n
rank-mono a b zero h = omega arith
rank-mono a b (suc n) h = omega (arith, rank-mono a b n (λ t l. h t (omega arith)), step-le (has_bit a n) (has_bit b n) (h n (omega arith)))

-- a set with one number more
pub rank-strict : (a b : List ℕ) (n u : ℕ) → ((t : ℕ) → t < n → has_bit a t ≡ true → has_bit b t ≡ true) → u < n → has_bit a u ≡ false → has_bit b u ≡ true → rank_of a n < rank_of b n
rank-strict a b zero u h l e f = absurd (omega arith)
rank-strict a b (suc n) u h l e f = elim (cases_lt u n) [
  | inl less ↦ omega (arith, rank-strict a b n u (λ t k. h t (omega arith)) less e f, step-le (has_bit a n) (has_bit b n) (h n (omega arith)))
  | inr more ↦
      let same : u ≡ n = omega arith in
      let e' = rw same at e in
      let f' = rw same at f in
      rw (e', f') (omega (arith, rank-mono a b n (λ t k. h t (omega arith))))
]

-- ---- the empty set
abbrev pub zero_words : List ℕ
zero_words = replicate 16 0

pub has_bit-zeros : (t : ℕ) → has_bit zero_words t ≡ false
unfolding has_bit
has_bit-zeros t = rw (zeros (t / 64), bit_at-zero (t % 64)) refl
  where
    zeros : (i : ℕ) → get_or zero_words i 0 ≡ 0
    zeros i = elim (cases_lt i 16) [
      | inl l ↦ get_or-replicate 16 i 0 0 l
      | inr g ↦ get_or_past zero_words i 0 (omega (arith, length-replicate {A = ℕ} 16 0))
    ]

-- a set with one number
pub has_bit-one : (row : List ℕ) (t : ℕ) → ((u : ℕ) → u < 1024 → has_bit row u ≡ (has_bit zero_words u || u == t)) → (u : ℕ) → u < 1024 → has_bit row u ≡ (u == t)
has_bit-one row t h u l = h u l ∙ ap (λ b. b || u == t) (has_bit-zeros u)

-- a set with one number more has more
pub rank_more : (old new : List ℕ) (t n : ℕ) → n ≤ 1024 → t < n → has_bit old t ≡ false → ((u : ℕ) → u < 1024 → has_bit new u ≡ (has_bit old u || u == t)) → rank_of old n < rank_of new n
rank_more old new t n few l e h =
    rank-strict old new n t (λ u b f. h u (omega arith) ∙ ap (λ b. b || u == t) f) l e (h t (omega arith) ∙ rw (e, same_eqb t t refl) refl)

-- Divisors of a length and their cofactors: one of both is at most the root.
use Rattle.std.proofs.Common.{ℕ, suc, ◌≡◌, ◌+◌, ◌*◌, ◌/◌, ◌<◌, ◌≤◌, ◌⊎◌, inl, inr, List, length, sym, subst, arith}
use Rattle.std.proofs.Math.Nat.{mul-le-mul_left, mul-le-mul_right}
use Rattle.std.proofs.lemmas.Nat.{div_below, le-div}
use Rattle.std.proofs.lemmas.Bool.{cases_lt}
use Rattle.fr_ray.specs.Forms.{IsPeriod}

-- a divisor past the root has a cofactor below it
pub times_below : (n p q times : ℕ) → 0 < p → n ≡ times * q → n / p < p → p ≤ q → times < p
times_below n p q times some whole root past = elim (cases_lt times p) [
  | inl k ↦ k
  | inr k ↦
      let square : p * p ≤ times * q = omega (arith, mul-le-mul_left p past, mul-le-mul_right q k) in
      absurd (omega (arith, le-div p n p some (omega (arith, square, whole)), root))
]

-- a divisor with a cofactor of at most p is at least the quotient by p
pub quotient_below : (n p q times : ℕ) → 0 < p → n ≡ times * q → times ≤ p → n / p ≤ q
quotient_below n p q times some whole few =
    let less : n < suc q * p = omega (arith, mul-le-mul_right q few, whole) in
    omega (arith, div_below n p (suc q) some less)

-- the quotient by p is the divisor whose cofactor is p
pub quotient_is : (n p q : ℕ) → 0 < p → n ≡ p * q → n / p ≡ q
quotient_is n p q some whole =
    let below : n / p ≤ q = quotient_below n p q p some whole (omega arith) in
    let above : q ≤ n / p = le-div q n p some (omega (arith, whole)) in
    omega (arith, below, above)

-- the least period so far, when a better one may be known
pub better_period : (v : List ℕ) (q best better : ℕ) → IsPeriod v best → (better ≡ best) ⊎ ((better ≡ q) × IsPeriod v q) → IsPeriod v better
better_period v q best better h (inl e) = subst (IsPeriod v) (sym e) h
better_period v q best better h (inr k) = subst (IsPeriod v) (sym k.0) k.1

pub better_least : (v : List ℕ) (p best better : ℕ) → 0 < p → ((q : ℕ) (h : IsPeriod v q) → h.times < p → q ≤ 4096 → best ≤ q)
    → (IsPeriod v (length v / p) → length v / p ≤ 4096 → better ≡ length v / p) → (better ≡ best) ⊎ ((better ≡ length v / p) × IsPeriod v (length v / p))
    → (q : ℕ) (h : IsPeriod v q) → h.times < p + 1 → q ≤ 4096 → better ≤ q
better_least v p best better some least taken kept q h few small = elim (cases_lt h.times p) [
  | inl less ↦ elim kept [
    | inl e ↦ omega (arith, least q h less small, e)
    | inr k ↦ omega (arith, k.0, quotient_below (length v) p q h.times some h.whole (omega (arith, less)))
  ]
  | inr more ↦
      let is : h.times ≡ p = omega (arith, few, more) in
      let whole : length v ≡ p * q = subst (λ (n : ℕ). length v ≡ n * q) is h.whole in
      let same : length v / p ≡ q = quotient_is (length v) p q some whole in
      omega (arith, taken (subst (IsPeriod v) (sym same) h) (omega (arith, same, small)), same)
]

-- no period is below p, and past the root
pub past_root : (v : List ℕ) (p q : ℕ) → 0 < p → length v / p < p → ((r : ℕ) → r < p → ¬ IsPeriod v r) → (h : IsPeriod v q) → h.times < p
past_root v p q some root none h = elim (cases_lt q p) [
  | inl less ↦ absurd (none q less h)
  | inr more ↦ times_below (length v) p q h.times some h.whole root more
]

-- Periods of infinite sequences: two periods have a common divisor that is one.
use Rattle.std.proofs.Common.{ℕ, zero, suc, ◌≡◌, ◌+◌, ◌-◌, ◌*◌, ◌<◌, ◌≤◌, inl, inr, sym, ◌∙◌, ap, arith}
use Rattle.std.proofs.lemmas.Bool.{cases_order, cases_lt}

-- the sequence has the period p from n on
pub record HasPeriod (r : ℕ → ℕ) (n p : ℕ) : Type 0 where
  pub again : (i : ℕ) → n ≤ i → r (i + p) ≡ r i

pub period_times : (r : ℕ → ℕ) (n p : ℕ) → HasPeriod r n p → (k i : ℕ) → n ≤ i → r (i + k * p) ≡ r i
period_times r n p h zero i l = let e : i + zero * p ≡ i = omega arith in ap r e
period_times r n p h (suc k) i l =
    let e : i + suc k * p ≡ (i + k * p) + p = omega arith in
    ap r e ∙ h.again (i + k * p) (omega arith) ∙ period_times r n p h k i l

at_most_times : (m p : ℕ) → 0 < p → m ≤ m * p
at_most_times m zero l = absurd (omega arith)
at_most_times m (suc q) l = omega arith

-- a period from some place on is one from each place on from which there is any
pub HasPeriod-back : (r : ℕ → ℕ) (n p m g : ℕ) → 0 < p → HasPeriod r n p → HasPeriod r m g → HasPeriod r n g
HasPeriod-back r n p m g s h k = record {
  again = λ i l.
      let j : ℕ = i + m * p in
      let far : m ≤ j = omega (arith, at_most_times m p s) in
      let e : (i + g) + m * p ≡ j + g = omega arith in
      sym (period_times r n p h m (i + g) (omega arith)) ∙ ap r e ∙ k.again j far ∙ period_times r n p h m i l;
}

pub HasPeriod-later : (r : ℕ → ℕ) (n m p : ℕ) → n ≤ m → HasPeriod r n p → HasPeriod r m p
HasPeriod-later r n m p l h = record { again = λ i k. h.again i (omega arith) }

pub HasPeriod-along : (r s : ℕ → ℕ) (n p : ℕ) → ((i : ℕ) → r i ≡ s i) → HasPeriod r n p → HasPeriod s n p
HasPeriod-along r s n p e h = record { again = λ i l. sym (e (i + p)) ∙ h.again i l ∙ e i }

-- a period that divides two
pub record IsCommonPeriod (r : ℕ → ℕ) (n p q g : ℕ) : Type 0 where
  pub some : 0 < g
  pub times : ℕ
  pub first : p ≡ times * g
  pub more : ℕ
  pub second : q ≡ more * g
  pub period : HasPeriod r n g

HasPeriod-minus : (r : ℕ → ℕ) (n p q : ℕ) → p < q → HasPeriod r n p → HasPeriod r n q → HasPeriod r n (q - p)
HasPeriod-minus r n p q l h k = record {
  again = λ i m.
      let e : (i + (q - p)) + p ≡ i + q = omega arith in
      sym (h.again (i + (q - p)) (omega arith)) ∙ ap r e ∙ k.again i m;
}

-- Euclid, by subtraction
pub common_period : (fuel : ℕ) (r : ℕ → ℕ) (n p q : ℕ) → p + q ≤ fuel → 0 < p → 0 < q → HasPeriod r n p → HasPeriod r n q → (g : ℕ) × IsCommonPeriod r n p q g
common_period zero r n p q f a b h k = absurd (omega arith)
common_period (suc fuel) r n p q f a b h k = elim (cases_order p q) [
  | inl e ↦ (p, record { some = a; times = 1; first = omega arith; more = 1; second = omega arith; period = h })
  | inr o ↦ elim o [
    | inl l ↦
        let s = common_period fuel r n p (q - p) (omega arith) a (omega arith) h (HasPeriod-minus r n p q l h k) in
        let c = s.1 in
        (s.0, record { some = c.some; times = c.times; first = c.first; more = c.times + c.more; second = omega (arith, c.first, c.second); period = c.period })
    | inr l ↦
        let s = common_period fuel r n (p - q) q (omega arith) (omega arith) b (HasPeriod-minus r n q p l k h) k in
        let c = s.1 in
        (s.0, record { some = c.some; times = c.times + c.more; first = omega (arith, c.first, c.second); more = c.more; second = c.second; period = c.period })
  ]
]

-- a divisor of what is not zero is not greater
pub factor-le : (n m g : ℕ) → 0 < n → n ≡ m * g → g ≤ n
factor-le n zero g l e = absurd (omega arith)
factor-le n (suc m) g l e = omega arith

-- sequences with one period that agree on the first round agree
pub same_from_periods : (fuel : ℕ) (r s : ℕ → ℕ) (n p : ℕ) → 0 < p → HasPeriod r n p → HasPeriod s n p → ((i : ℕ) → i < n + p → r i ≡ s i) → (i : ℕ) → i < fuel → r i ≡ s i
same_from_periods zero r s n p a h k e i l = absurd (omega arith)
same_from_periods (suc fuel) r s n p a h k e i l = elim (cases_lt i (n + p)) [
  | inl b ↦ e i b
  | inr g ↦
      let j : ℕ = i - p in
      let f : j + p ≡ i = omega arith in
      ap r (sym f) ∙ h.again j (omega arith) ∙ same_from_periods fuel r s n p a h k e j (omega arith) ∙ sym (k.again j (omega arith)) ∙ ap s f
]

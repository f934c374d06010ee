-- Powers by squaring, one halving after the other.
use Rattle.std.proofs.Common.{ℕ, zero, suc, ◌≡◌, ◌≤◌, ◌/◌, ◌%◌, ◌⊎◌, inl, inr, Bool, true, false, nat_le, ◌==◌, refl, sym, ◌∙◌, ap, arith, if◌then◌else◌}
use Rattle.std.proofs.lemmas.Bool.{leb-true, leb-false}
use Rattle.std.proofs.lemmas.Bool.Decides.{eqb_tells}
use Rattle.fr_model.specs.Terms.{Term}
use Rattle.fr_plain.specs.Steps.{Identity}
use Rattle.fr_plain.specs.Expansions.{Expansion, given, step, followed_by, inverse_of, product_of, power_within, power_of, signed_power}

truth : (b : Bool) → (b ≡ true) ⊎ (b ≡ false)
truth true = inl refl
truth false = inr refl

-- what follows the power of half the exponent
abbrev pub after_half : Term → ℕ → Term → Expansion
after_half t k p = followed_by (product_of p p) (λ q. if k % 2 == 0 then given q else product_of q t)

at_most_one : (fuel k : ℕ) (t : Term) → nat_le k 1 ≡ true → power_within fuel t k ≡ given t
at_most_one zero k t e = refl
at_most_one (suc fuel) k t e = ap (λ (b : Bool). if b then given t else followed_by (power_within fuel t (k / 2)) (after_half t k)) e

above_one : (fuel k : ℕ) (t : Term) → nat_le k 1 ≡ false → power_within (suc fuel) t k ≡ followed_by (power_within fuel t (k / 2)) (after_half t k)
above_one fuel k t e = ap (λ (b : Bool). if b then given t else followed_by (power_within fuel t (k / 2)) (after_half t k)) e

-- the bound on the halvings does not matter
fuel_free : (f g k : ℕ) (t : Term) → k ≤ f → k ≤ g → power_within f t k ≡ power_within g t k
fuel_free zero g k t a b = elim (truth (nat_le k 1)) [
  | inl e ↦ sym (at_most_one g k t e)
  | inr e ↦ absurd (omega (arith, a, leb-false k 1 e))
]
fuel_free (suc f) zero k t a b = elim (truth (nat_le k 1)) [
  | inl e ↦ at_most_one (suc f) k t e
  | inr e ↦ absurd (omega (arith, b, leb-false k 1 e))
]
fuel_free (suc f) (suc g) k t a b = elim (truth (nat_le k 1)) [
  | inl e ↦ at_most_one (suc f) k t e ∙ sym (at_most_one (suc g) k t e)
  | inr e ↦
      above_one f k t e
      ∙ ap (λ (x : Expansion). followed_by x (after_half t k)) (fuel_free f g (k / 2) t (omega (arith, a, leb-false k 1 e)) (omega (arith, b, leb-false k 1 e)))
      ∙ sym (above_one g k t e)
]

pub power-half : (t : Term) (k : ℕ) → 2 ≤ k → power_of t k ≡ followed_by (power_of t (k / 2)) (after_half t k)
power-half t zero h = absurd (omega (arith, h))
power-half t (suc j) h = elim (truth (nat_le (suc j) 1)) [
  | inl e ↦ absurd (omega (arith, h, leb-true (suc j) 1 e))
  | inr e ↦ above_one j (suc j) t e ∙ ap (λ (x : Expansion). followed_by x (after_half t (suc j))) (fuel_free j (suc j / 2) (suc j / 2) t (omega (arith, h)) (omega arith))
]

pub power-one : (t : Term) (k : ℕ) → k ≤ 1 → power_of t k ≡ given t
power-one t k h = elim (truth (nat_le k 1)) [
  | inl e ↦ at_most_one k k t e
  | inr e ↦ absurd (omega (arith, h, leb-false k 1 e))
]

even_test : (k : ℕ) → k % 2 ≡ 0 → (k % 2 == 0) ≡ true
even_test k h = elim (eqb_tells (k % 2) 0) [ inl e ↦ e.0 | inr e ↦ absurd (e.1 h) ]

odd_test : (k : ℕ) → ¬ (k % 2 ≡ 0) → (k % 2 == 0) ≡ false
odd_test k h = elim (eqb_tells (k % 2) 0) [ inl e ↦ absurd (h e.1) | inr e ↦ e.0 ]

-- what follows the square
abbrev pub after_square : Term → ℕ → Term → Expansion
after_square t k q = if k % 2 == 0 then given q else product_of q t

pub even_square : (t : Term) (k : ℕ) (q : Term) → k % 2 ≡ 0 → given q ≡ after_square t k q
even_square t k q h = sym (ap (λ (b : Bool). if b then given q else product_of q t) (even_test k h))

pub odd_square : (t : Term) (k : ℕ) (q : Term) → ¬ (k % 2 ≡ 0) → product_of q t ≡ after_square t k q
odd_square t k q h = sym (ap (λ (b : Bool). if b then given q else product_of q t) (odd_test k h))

pub negative_power : (b : Bool) (k : ℕ) (t : Term) → ¬ (k ≡ 0) → b ≡ true → followed_by (inverse_of t) (λ g. power_of g k) ≡ signed_power b k t
negative_power b k t some is =
    let test : (k == 0) ≡ false = elim (eqb_tells k 0) [ inl e ↦ absurd (some e.1) | inr e ↦ e.0 ] in
    sym (ap (λ (z : Bool). if z then step Identity else if b then followed_by (inverse_of t) (λ g. power_of g k) else power_of t k) test
    ∙ ap (λ (z : Bool). if z then followed_by (inverse_of t) (λ g. power_of g k) else power_of t k) is)

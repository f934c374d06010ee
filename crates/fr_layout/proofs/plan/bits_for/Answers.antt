use Rattle.std.proofs.Common.{ℕ, ◌*◌, ◌-◌, ◌<◌, ◌≤◌, ◌^◌, inl, inr, ap, arith}
use Rattle.std.proofs.Math.Pow.{pow-lt}
use Rattle.std.proofs.lemmas.Bool.{cases_order}
use Rattle.fr_layout.proofs.plan.bits_for.Goals as goal

-- a number below 2^21 has its highest bit below the 21st
highest : (r n : ℕ) → 2 ^ r ≤ n → n < 2 ^ 21 → r < 21
highest r n p l = elim (cases_order r 21) [
  | inl e ↦ absurd (let q = ap (λ k. 2 ^ k) e in omega (arith, p, l, q))
  | inr t ↦ elim t [ inl u ↦ u | inr u ↦ absurd (let q = pow-lt {i = 21} {j = r} u in omega (arith, p, l, q)) ]
]

pub returns-clause-most : goal.returns-clause-most
returns-clause-most c =
    let n : 2 * c.args.room - 1 < 2 ^ 21 = omega (arith, c.requires.limit) in
    let h = highest c.ilog2.result (2 * c.args.room - 1) c.ilog2.ensures.power_le n in
    omega (arith, h)

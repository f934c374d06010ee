use Rattle.std.proofs.Common.{ℕ, ◌≡◌, ◌*◌, ◌≤◌, ◌^◌, inl, inr, sym, subst, arith}
use Rattle.std.proofs.Math.Nat.{pow-le-pow_right}
use Rattle.std.proofs.lemmas.Bool.{cases_lt}
use Rattle.fr_store.proofs.index.Index.wider.Goals as goal

pub bits_for-few-requires-clause-limit : goal.bits_for-few-requires-clause-limit
bits_for-few-requires-clause-limit c =
    let s = c.args.self.now in
    let p = pow-le-pow_right {n = 2} (omega arith) {i = s.most_bits} {j = 21} s.most in
    omega (arith, c.requires.room, p)

-- the table is as wide as it can be, or as wide as is wanted
pub returns-clause-half : goal.returns-clause-half
returns-clause-half c =
    let s = c.args.self.now in
    elim (cases_lt c.min.result c.bits_for-few.result) [
      | inl l ↦
          let e : c.min.result ≡ s.most_bits = grind (arith, c.min.ensures, c.max.ensures, l) in
          let P : ℕ → Type 0 = λ b. 2 * c.args.rows ≤ 2 ^ b in
          subst P (sym e) c.requires.room
      | inr g ↦ (let p = pow-le-pow_right {n = 2} (omega arith) {i = c.bits_for-few.result} {j = c.min.result} g in omega (arith, p, c.bits_for-few.ensures.half))
    ]

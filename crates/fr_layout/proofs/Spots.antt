-- Two places are one only where they are named alike.
use Rattle.std.proofs.Common.{◌≡◌, ℕ, suc, ◌+◌, ◌*◌, ◌<◌, ◌≤◌, ap, arith, suc-mul, mul-le-mul_right}
use native.Mathlib.Decide.{dec_le}
use Rattle.std.proofs.Math.Nat.{lt_of_not-le}
use Rattle.fr_layout.specs.declared.plan.Plan.{Plan}
use Rattle.fr_layout.specs.Places.{width, field_at, link_at}
use Rattle.fr_layout.specs.Laws.{PlacesAreApart}

ahead : (r q w f : ℕ) → r < q → f < w → r * w + f < q * w
ahead r q w f h small = let a : suc r * w ≤ q * w = mul-le-mul_right w h in omega (arith, suc-mul r w)

same_row : (r q w f g : ℕ) → f < w → g < w → r * w + f ≡ q * w + g → r ≡ q
same_row r q w f g a b e = go (dec_le (suc r) q) (dec_le (suc q) r)
  where
    go : Dec (r < q) → Dec (q < r) → r ≡ q
    go (yes h) d = let p = ahead r q w f h a in let x : ℕ = r * w in let y : ℕ = q * w in let e' : x + f ≡ y + g = e in let p' : x + f < y = p in absurd (omega arith)
    go (no n) (yes h) = let p = ahead q r w g h b in let x : ℕ = r * w in let y : ℕ = q * w in let e' : x + f ≡ y + g = e in let p' : y + g < x = p in absurd (omega arith)
    go (no n) (no m) = let p = lt_of_not-le n in let q = lt_of_not-le m in omega arith

module _ (p : Plan) where
  pub same_field : (r q f g : ℕ) → f ≤ p.letters → g ≤ p.letters → field_at p r f ≡ field_at p q g → (r ≡ q) × (f ≡ g)
  same_field r q f g a b e =
      let row : r ≡ q = same_row r q (width p) f g (omega arith) (omega arith) (omega arith) in
      let m : r * width p ≡ q * width p = ap (λ (x : ℕ). x * width p) row in
      (row, omega arith)

  pub field_below : (r f : ℕ) → r < p.capacity → f ≤ p.letters → field_at p r f < link_at p 0
  field_below r f h a = let g = ahead r p.capacity (width p) f h (omega arith) in omega arith

pub places : PlacesAreApart
places = record {
  fields = same_field;
  fields_first = λ p r f h a. (omega arith, field_below p r f h a);
  links = λ p r q e. omega arith;
  links_then = λ p r h. omega arith;
  cells = λ p c e h. omega arith;
  cells_then = λ p c h. omega arith;
  cache = λ p j k e. omega arith;
}

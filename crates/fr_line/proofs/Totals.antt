-- A number of each view, added up over all.
use Rattle.std.proofs.Common.{◌≡◌, ◌≢◌, ℕ, zero, suc, ◌+◌, ◌≤◌, List, [], ◌∷◌, ◌++◌, set, refl, sym, ap, arith}
use mathlib.Core.Option.{some, some-injective, some-ne-none}
use lib.ListN.{get_elem?}
use Rattle.fr_line.specs.Lines.{total}

module _ {V : Type 0} (f : V → ℕ) where
  -- one view is replaced
  pub total_set : (vs : List V) (i : ℕ) (v w : V) → get_elem? vs i ≡ some v → total f (set vs i w) + f v ≡ total f vs + f w
  total_set [] i v w e = absurd (some-ne-none v (sym e))
  total_set (x ∷ xs) zero v w e = let h : f x ≡ f v = ap f (some-injective x v e) in omega arith
  total_set (x ∷ xs) (suc i) v w e = let h = total_set xs i v w e in omega arith

  pub total_snoc : (vs : List V) (u : V) → total f (vs ++ u ∷ []) ≡ total f vs + f u
  total_snoc [] u = omega arith
  total_snoc (x ∷ xs) u = let h = total_snoc xs u in omega arith

  pub total_at : (vs : List V) (i : ℕ) (v : V) → get_elem? vs i ≡ some v → f v ≤ total f vs
  total_at [] i v e = absurd (some-ne-none v (sym e))
  total_at (x ∷ xs) zero v e = let h : f x ≡ f v = ap f (some-injective x v e) in omega arith
  total_at (x ∷ xs) (suc i) v e = let h = total_at xs i v e in omega arith

  -- two of the views have no more than all
  pub total_two : (vs : List V) (i j : ℕ) (v u : V) → j ≢ i → get_elem? vs i ≡ some v → get_elem? vs j ≡ some u → f v + f u ≤ total f vs
  total_two [] i j v u n e d = absurd (some-ne-none v (sym e))
  total_two (x ∷ xs) zero zero v u n e d = absurd (n refl)
  total_two (x ∷ xs) zero (suc j) v u n e d = let h : f x ≡ f v = ap f (some-injective x v e) in let k = total_at xs j u d in omega arith
  total_two (x ∷ xs) (suc i) zero v u n e d = let h : f x ≡ f u = ap f (some-injective x u d) in let k = total_at xs i v e in omega arith
  total_two (x ∷ xs) (suc i) (suc j) v u n e d = let h = total_two xs i j v u (λ p. n (ap suc p)) e d in omega arith

-- Where f of the one view is the whole of f, g of it is the whole of g
module _ {V : Type 0} (f g : V → ℕ) (tied : (v : V) → f v ≡ 0 → g v ≡ 0) where
  nothing : (vs : List V) → total f vs ≡ 0 → total g vs ≡ 0
  nothing [] e = refl
  nothing (x ∷ xs) e = let h = tied x (omega arith) in let k = nothing xs (omega arith) in omega arith

  pub alone : (vs : List V) (i : ℕ) (v : V) → get_elem? vs i ≡ some v → total f vs ≡ f v → total g vs ≡ g v
  alone [] i v e h = absurd (some-ne-none v (sym e))
  alone (x ∷ xs) zero v e h = let p : f x ≡ f v = ap f (some-injective x v e) in let q : g x ≡ g v = ap g (some-injective x v e) in let k = nothing xs (omega arith) in omega arith
  alone (x ∷ xs) (suc i) v e h = let at = total_at f xs i v e in let k = tied x (omega arith) in let r = alone xs i v e (omega arith) in omega arith

-- Where f is 0 of each other view, the one has the whole of it
module _ {V : Type 0} (f : V → ℕ) where
  none_at_all : (vs : List V) → ((j : ℕ) (u : V) → get_elem? vs j ≡ some u → f u ≡ 0) → total f vs ≡ 0
  none_at_all [] h = refl
  none_at_all (x ∷ xs) h = let a = h 0 x refl in let b = none_at_all xs (λ j u e. h (suc j) u e) in omega arith

  pub total_one : (vs : List V) (i : ℕ) (v : V) → get_elem? vs i ≡ some v → ((j : ℕ) (u : V) → j ≢ i → get_elem? vs j ≡ some u → f u ≡ 0) → total f vs ≡ f v
  total_one [] i v e h = absurd (some-ne-none v (sym e))
  total_one (x ∷ xs) zero v e h = let p : f x ≡ f v = ap f (some-injective x v e) in let b = none_at_all xs (λ j u d. h (suc j) u (λ q. omega arith) d) in omega arith
  total_one (x ∷ xs) (suc i) v e h = let a = h 0 x (λ q. omega arith) refl in let b = total_one xs i v e (λ j u n d. h (suc j) u (λ q. n (omega arith)) d) in omega arith

-- a place beside the one that is written
pub get_elem?-set_other : {V : Type 0} (vs : List V) (i j : ℕ) (v : V) → j ≢ i → get_elem? (set vs i v) j ≡ get_elem? vs j
get_elem?-set_other [] i j v n = refl
get_elem?-set_other (x ∷ xs) zero zero v n = absurd (n refl)
get_elem?-set_other (x ∷ xs) zero (suc j) v n = refl
get_elem?-set_other (x ∷ xs) (suc i) zero v n = refl
get_elem?-set_other (x ∷ xs) (suc i) (suc j) v n = get_elem?-set_other xs i j v (λ e. n (ap suc e))

-- The value of digits, capped on the way.
use Rattle.std.proofs.Common.{◌≡◌, ℕ, ◌+◌, ◌-◌, ◌*◌, ◌≤◌, ◌<◌, ◌⊎◌, inl, inr, min, List, [], ◌∷◌, drop, get_or, length, arith, ap, ◌∙◌, sym, drop-cons, add-one, refl}
use Rattle.std.proofs.Common.{nat_lt}
use Rattle.std.proofs.lemmas.Bool.{cases_lt, lt-ltb, le-ltb}
use Rattle.fr_syntax.specs.Values.{digits_value_from}

pub digits_value_from-ge : (n : ℕ) (cs : List ℕ) → n ≤ digits_value_from n cs
digits_value_from-ge n [] = omega arith
digits_value_from-ge n (c ∷ cs) = omega (arith, digits_value_from-ge (10 * n + (c - 48)) cs)

by_size : (n : ℕ) (cs : List ℕ) → (1000001 < n) ⊎ (n ≤ 1000001) → min (digits_value_from (min n 1000001) cs) 1000001 ≡ min (digits_value_from n cs) 1000001
by_size n cs (inr h) = let e : min n 1000001 ≡ n = omega arith in ap (λ k. min (digits_value_from k cs) 1000001) e
by_size n cs (inl h) = omega (arith, digits_value_from-ge n cs, digits_value_from-ge (min n 1000001) cs)

-- a cap on the way does not change the capped value
pub capped_start : (n : ℕ) (cs : List ℕ) → min (digits_value_from (min n 1000001) cs) 1000001 ≡ min (digits_value_from n cs) 1000001
capped_start n cs = by_size n cs (cases_lt 1000001 n)

-- one digit more
pub capped_digit : (v i : ℕ) (cs : List ℕ) → i < length cs →
    min (digits_value_from (min (10 * v + (get_or cs i 0 - 48)) 1000001) (drop (i + 1) cs)) 1000001 ≡ min (digits_value_from v (drop i cs)) 1000001
capped_digit v i cs h =
    let split : drop i cs ≡ get_or cs i 0 ∷ drop (i + 1) cs = rw (add-one, drop-cons cs i 0) refl in
    rw split (capped_start (10 * v + (get_or cs i 0 - 48)) (drop (i + 1) cs))

passes_by : (n : ℕ) → (1000000 < n) ⊎ (n ≤ 1000000) → nat_lt 1000000 (min n 1000001) ≡ nat_lt 1000000 n
passes_by n (inl h) = lt-ltb 1000000 (min n 1000001) (omega arith) ∙ sym (lt-ltb 1000000 n h)
passes_by n (inr h) = le-ltb 1000000 (min n 1000001) (omega arith) ∙ sym (le-ltb 1000000 n h)

pub capped_passes : (n : ℕ) → nat_lt 1000000 (min n 1000001) ≡ nat_lt 1000000 n
capped_passes n = passes_by n (cases_lt 1000000 n)

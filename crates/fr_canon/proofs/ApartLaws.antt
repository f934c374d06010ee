-- Numbers below a bound, no two equal, are at most as many as the bound says.
use Rattle.std.proofs.Common.{ℕ, ◌≡◌, ◌<◌, ◌≤◌, ◌∙◌, List, length, get_or, arith, eqb, true, false}
use Rattle.std.specs.List.{list_any}
use Rattle.std.proofs.lemmas.Bool.{ne_eqb}
use Rattle.std.proofs.lemmas.List.{get_or_default}
use Rattle.std.proofs.lemmas.Map.Keys.{IsDistinct-from_apart}
use Rattle.std.proofs.lemmas.Map.Steps.{length-le_from_distinct_below}
use Rattle.fr_model.proofs.PermutationLaws.{present_place}

pub length-le_apart : (keys : List ℕ) (bound : ℕ) → ((i : ℕ) → i < length keys → get_or keys i 0 < bound) → ((i j : ℕ) → i < length keys → j < length keys → get_or keys i 0 ≡ get_or keys j 0 → i ≡ j) → length keys ≤ bound
length-le_apart keys bound below distinct = length-le_from_distinct_below keys bound (IsDistinct-from_apart eqb keys apart) under
  where
    apart : (i j e : ℕ) → i < j → j < length keys → eqb (get_or keys i e) (get_or keys j e) ≡ false
    apart i j e l k = ne_eqb _ _ (λ same. (let il : i < length keys = omega arith in let s = distinct i j il k (get_or_default keys i 0 e il ∙ same ∙ get_or_default keys j e 0 k) in omega (arith, s, l)))

    under : (q : ℕ) → list_any (eqb q) keys ≡ true → q < bound
    under q m = let r = present_place 0 keys q m in let b = below r.0 r.1 in let e = get_or_default keys r.0 q 0 r.1 in omega (arith, b, e, r.3)

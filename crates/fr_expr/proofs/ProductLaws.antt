-- The smallest machine of a product, from the machines of its factors.
use Rattle.std.proofs.Common.{ℕ, ◌≡◌, ◌≤◌, inl, inr, refl, arith, Err}
use Rattle.std.proofs.lemmas.Bool.{cases_order}
use Rattle.fr_model.specs.Words.{IsWord}
use Rattle.fr_model.specs.Terms.{Term, Product, IsAlike}
use Rattle.fr_model.specs.Classes.{IsSize, SameSection, HasMoreStates, HasMorePairs, IsPairCount, HasFewPairs}
use Rattle.fr_model.proofs.AlikeLaws.{alike_trans, alike_product}
use Rattle.fr_model.proofs.ClassLaws.{IsSize-alike, HasMoreStates-alike, IsPairCount-alike, HasMorePairs-alike}
use Rattle.fr_model.proofs.CountLaws.{HasMoreThan-from_count}
use Rattle.fr_product.specs.declared.pairs.ProductFault.{ProductFault}
use Rattle.fr_product.specs.declared.pairs.ProductFault.TheVariants as p
use Rattle.fr_minimal.specs.declared.smallest.MinFault.{MinFault}
use Rattle.fr_minimal.specs.declared.smallest.MinFault.TheVariants as m
use Rattle.fr_plain.specs.Steps.{Multiplied, IsCharged}
use Rattle.fr_expr.specs.Faults.{of_product, of_minimal}
use Rattle.fr_expr.specs.Evaluation.{Multiplies}

-- the factors may be replaced by terms that act alike
module _ (d : ℕ) (t u left right : Term) (a : IsAlike left t) (b : IsAlike right u) where
  pub product_refused : (fault : ProductFault) → (fault ≡ p.PairsPassed → HasMorePairs d left right 65536) → Multiplies d t u (Err (of_product fault))
  product_refused p.PairsPassed more = inl (HasMorePairs-alike d left t right u 65536 a b (more refl), refl)
  product_refused p.NoMemory more = tt

  few : (n : ℕ) → n ≤ 65536 → IsPairCount d left right n → HasFewPairs d t u
  few n l c = (n, l, IsPairCount-alike d left t right u n a b c)

  pub states_refused : (r : Term) (n : ℕ) (fault : MinFault) → n ≤ 65536 → IsPairCount d left right n → IsAlike r (Product left right) → (fault ≡ m.StatesPassed → HasMoreStates d r 1024)
      → Multiplies d t u (Err (of_minimal fault))
  states_refused r n m.StatesPassed l c e more = inr (few n l c, HasMoreStates-alike d r (Product t u) 1024 (alike_trans e (alike_product a b)) (more refl), refl)
  states_refused r n m.NoMemory l c e more = tt

  pub product_charged : (r : Term) (n size : ℕ) → n ≤ 65536 → IsPairCount d left right n → IsAlike r (Product left right) → IsSize d r size → ¬ HasMoreStates d r 1024
      → IsCharged d (Multiplied t u) size
  product_charged r n size l c e s fewer = (
    few n l c,
    (
      elim (cases_order size 1024) [
        | inl same ↦ omega (arith, same)
        | inr o ↦ elim o [
          | inl less ↦ omega (arith, less)
          | inr more ↦ absurd (fewer (HasMoreThan-from_count (IsWord d) (SameSection r) 1024 size more s))
        ]
      ],
      IsSize-alike d r (Product t u) size (alike_trans e (alike_product a b)) s,
    ),
  )

  pub product_alike : (q r : Term) → IsAlike q r → IsAlike r (Product left right) → IsAlike q (Product t u)
  product_alike q r h e = alike_trans h (alike_trans e (alike_product a b))

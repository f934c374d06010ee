-- Lists that are no permutation, and the rank of the swap.
use Rattle.std.proofs.Common.{ℕ, ◌≡◌, inl, inr, true, false, List, [], ◌∷◌, refl, sym, ◌∙◌, arith, eqb}
use Rattle.std.specs.List.{IsDistinct}
use Rattle.std.proofs.lemmas.List.Elements.{All-from_recursion}
use Rattle.std.proofs.lemmas.Bool.{eq-eqb}
use Rattle.fr_model.specs.Permutations.{IsPermutation}
use Rattle.fr_model.specs.Ranks.{IsEarlier, IsRank}
use Rattle.fr_model.proofs.ClassLaws.{count-same}
use Rattle.fr_model_examples.specs.ComputedPermutations.{PermutationsRefused, SwapHasRankOne}
use Rattle.fr_model_examples.proofs.Letters.{stay, letter_cases}

twice : ¬ IsPermutation 2 (2 ∷ 2 ∷ [])
unfolding IsDistinct
twice h = let e : eqb 2 2 ≡ false = h.distinct.0.0 in cc

earlier : (q : List ℕ) → IsEarlier 2 (2 ∷ 1 ∷ []) q → q ≡ 1 ∷ 2 ∷ []
unfolding IsDistinct
earlier [] h = absurd (omega (arith, h.permutes.degree))
earlier (x ∷ []) h = absurd (omega (arith, h.permutes.degree))
earlier (x ∷ y ∷ z ∷ w) h = absurd (omega (arith, h.permutes.degree))
earlier (x ∷ y ∷ []) h = elim (letter_cases x h.permutes.letters.0) [
  | inl a ↦ elim (letter_cases y h.permutes.letters.1.0) [
    | inl b ↦ absurd (same x y (a ∙ sym b) h.permutes.distinct.0.0)
    | inr b ↦ rw (a, b) refl
  ]
  | inr a ↦ elim h.before [ inl b ↦ absurd (omega (arith, a, b)) | inr b ↦ elim b.1 [ inl e ↦ absurd (omega (arith, e, h.permutes.letters.1.0.0)) | inr e ↦ absurd e.1 ] ]
]
  where
    same : (x y : ℕ) → x ≡ y → eqb x y ≡ false → ⊥
    same x y e f = let g : true ≡ false = sym (eq-eqb x y e) ∙ f in cc

rank_one : IsRank 2 (2 ∷ 1 ∷ []) 1
rank_one = record {
  members = (1 ∷ 2 ∷ []) ∷ [];
  count = refl;
  valid = All-from_recursion (IsEarlier 2 (2 ∷ 1 ∷ [])) ((1 ∷ 2 ∷ []) ∷ []) (record { permutes = stay; before = inl (omega arith) }, tt);
  apart = λ i j a h k e. omega arith;
  covers = λ q h. (0, omega arith, earlier q h);
}

pub refused : PermutationsRefused
refused = record {
  twice = twice;
  outside = λ h. omega (arith, h.letters.1.0.1);
  zero = λ h. omega (arith, h.letters.1.0.0);
  short = λ h. omega (arith, h.degree);
  long = λ h. omega (arith, h.degree);
}

-- the rank is one
only_rank : (n : ℕ) → IsRank 2 (2 ∷ 1 ∷ []) n → 1 ≡ n
only_rank n s = count-same [] (IsEarlier 2 (2 ∷ 1 ∷ [])) (λ q p. q ≡ p) (λ v w h. sym h) (λ u v w h k. h ∙ k) 1 n rank_one s

pub swap_rank : SwapHasRankOne
swap_rank = record { one = rank_one; not_zero = λ s. omega (arith, only_rank 0 s); not_two = λ s. omega (arith, only_rank 2 s) }

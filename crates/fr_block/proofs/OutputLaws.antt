-- What a product puts out is a permutation of the letters.
use Rattle.std.proofs.Common.{ℕ, suc, ◌≡◌, ◌<◌, Bool, true, false, List, [], ◌∷◌, length, get_or, refl, sym, ◌∙◌, ap, arith}
use Rattle.std.proofs.lemmas.List.{get_or_default, ext_get_or}
use Rattle.std.proofs.lemmas.List.Elements.{All-head, All-tail}
use Rattle.fr_model.specs.Permutations.{IsPermutation, image, identity_permutation, composite, inverse_permutation}
use Rattle.fr_model.specs.Systems.{Factor, System, IsSystem, wreath_at, factor_output, product_output}
use Rattle.fr_model.proofs.PermutationLaws.{IsPermutation-identity, image-identity, IsPermutation-composite, image-composite, IsPermutation-inverse, image-inverse}
use Rattle.fr_block.specs.Blocks.{AreNames}

-- what a name or its inverse puts out is a permutation
factor_permutation : (d : ℕ) (s : System) → IsSystem d s → (f : Factor) → f.name < length s → (p : List ℕ) × IsPermutation d p × ((x : ℕ) → image p x ≡ factor_output s f x)
factor_permutation d s h f l = go f.inverse refl
  where
    perm : List ℕ
    perm = (wreath_at s f.name).perm

    permutes : IsPermutation d perm
    permutes = (h f.name (record { perm = []; sections = [] }) l).permutes

    go : (b : Bool) → f.inverse ≡ b → (p : List ℕ) × IsPermutation d p × ((x : ℕ) → image p x ≡ factor_output s f x)
    go true e = (inverse_permutation perm, IsPermutation-inverse d perm permutes, λ x. rw e (image-inverse d perm permutes x))
    go false e = (perm, permutes, λ x. rw e refl)

-- and so is what a product puts out
pub product_permutation : (d : ℕ) (s : System) → IsSystem d s → (fs : List Factor) → AreNames s fs → (p : List ℕ) × IsPermutation d p × ((x : ℕ) → image p x ≡ product_output s fs x)
product_permutation d s h [] a = (identity_permutation d, IsPermutation-identity d, image-identity d)
product_permutation d s h (f ∷ fs) a =
    let q = factor_permutation d s h f (All-head (λ (g : Factor). g.name < length s) f fs a) in
    let r = product_permutation d s h fs (All-tail (λ (g : Factor). g.name < length s) f fs a) in
    (composite q.0 r.0, IsPermutation-composite d q.0 r.0 q.1 r.1, λ x. image-composite d q.0 r.0 q.1 r.1 x ∙ r.2 (image q.0 x) ∙ ap (product_output s fs) (q.2 x))

-- the images of the letters in order are that permutation
pub images_permute : (d : ℕ) (s : System) → IsSystem d s → (fs : List Factor) → AreNames s fs → (images : List ℕ) → length images ≡ d → ((k : ℕ) → k < d → get_or images k 0 ≡ product_output s fs (suc k)) → IsPermutation d images × ((x : ℕ) → image images x ≡ product_output s fs x)
images_permute d s h fs a images size at =
    let p = product_permutation d s h fs a in
    let same : images ≡ p.0 = ext_get_or 0 images p.0 (size ∙ sym p.1.degree) (λ k l. at k (omega (arith, size)) ∙ sym (p.2 (suc k)) ∙ sym (get_or_default p.0 k 0 (suc k) (omega (arith, l, size, p.1.degree)))) in
    (rw same p.1, λ x. ap (λ q. image q x) same ∙ p.2 x)

-- Rays and nuclei: a ray has one canonical form, and the depth of a nucleus is one number.
use Rattle.std.proofs.Common.{ℕ, suc, ◌≡◌, ◌≢◌, ◌+◌, inl, inr, List, [], ◌∷◌, ◌++◌, length, take, refl, sym, ◌∙◌, ap, arith, append_assoc, length-append}
use Rattle.std.proofs.lemmas.Bool.{cases_order}
use Rattle.std.proofs.lemmas.List.{take_at, append_cancel_left}
use Rattle.fr_model.specs.Terms.{Term, Product, IsAlike}
use Rattle.fr_model.specs.Rays.{repeated, ray_prefix, IsSameRay, IsCanonicalRay}
use Rattle.fr_model.specs.Nuclei.{IsLimitSection, IsNucleusMember, IsNucleusDepth}
use Rattle.fr_model.specs.Nuclei.IsNucleusMember.{of_generator, of_product}
use Rattle.fr_model.proofs.AlikeLaws.{alike_sym, alike_trans, alike_section}

-- ---- rays
ray_beginning : (u v : List ℕ) → ray_prefix u v (length u) ≡ u
ray_beginning u v = take_at u (repeated v (length u)) (length u) refl

ray_round : (u v : List ℕ) → v ≢ [] → ray_prefix u v (length u + length v) ≡ u ++ v
ray_round u [] n = absurd (n refl)
ray_round u (x ∷ v) n =
    let w : List ℕ = x ∷ v in
    let e : length u + length w ≡ suc (length u + length v) = omega arith in
    rw e (sym (ap (take (suc (length u + length v))) (append_assoc u w (repeated w (length u + length v)))) ∙ take_at (u ++ w) (repeated w (length u + length v)) (suc (length u + length v)) (length-append u w ∙ e))

pub canonical_ray_once : (d : ℕ) (u v u' v' : List ℕ) → IsCanonicalRay d u v → IsCanonicalRay d u' v' → IsSameRay u v u' v' → (u ≡ u') × (v ≡ v')
canonical_ray_once d u v u' v' a b s =
    let back : IsSameRay u' v' u v = λ n. sym (s n) in
    let m : length u ≡ length u' = omega (arith, a.least_beginning u' v' b.some s, b.least_beginning u v a.some back) in
    let n : length v ≡ length v' = omega (arith, a.primitive u' v' b.some s, b.primitive u v a.some back) in
    let first : u ≡ u' = sym (ray_beginning u v) ∙ s (length u) ∙ ap (ray_prefix u' v') m ∙ ray_beginning u' v' in
    let k : length u + length v ≡ length u' + length v' = omega arith in
    let round : u ++ v ≡ u' ++ v' = sym (ray_round u v a.some) ∙ s (length u + length v) ∙ ap (ray_prefix u' v') k ∙ ray_round u' v' b.some in
    (first, append_cancel_left u v v' (round ∙ ap (λ w. w ++ v') (sym first)))

-- ---- nuclei
pub IsLimitSection-alike : (d : ℕ) (t u h f : Term) → IsAlike t u → IsAlike h f → IsLimitSection d t h → IsLimitSection d u f
IsLimitSection-alike d t u h f e k l n = let r = l n in (r.0, r.1, r.2, alike_trans (alike_sym (alike_section r.0 e)) (alike_trans r.3 k))

pub IsNucleusMember-alike : (d : ℕ) (Q : Term → Type 0) (h f : Term) → IsAlike h f → IsNucleusMember d Q h → IsNucleusMember d Q f
IsNucleusMember-alike d Q h f e (of_generator {q} i l) = of_generator i (IsLimitSection-alike d q q h f (record { images = λ w. refl }) e l)
IsNucleusMember-alike d Q h f e (of_product {g} {q} m i l) = of_product m i (IsLimitSection-alike d (Product g q) (Product g q) h f (record { images = λ w. refl }) e l)

pub nucleus_depth_once : (d : ℕ) (Q : Term → Type 0) (k l : ℕ) → IsNucleusDepth d Q k → IsNucleusDepth d Q l → k ≡ l
nucleus_depth_once d Q k l a b = elim (cases_order k l) [
  | inl e ↦ e
  | inr o ↦ elim o [
    | inl h ↦ let r = b.least k h in absurd (r.7 (a.within r.0 r.1 r.3 r.4 r.2 r.5 r.6))
    | inr h ↦ let r = a.least l h in absurd (r.7 (b.within r.0 r.1 r.3 r.4 r.2 r.5 r.6))
  ]
]

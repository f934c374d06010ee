-- Free reduction of a product at whose end more members come, and the names of reduced products and of sections.
use Rattle.std.proofs.Common.{ℕ, zero, suc, ◌≡◌, ◌<◌, ◌≤◌, ◌-◌, inl, inr, Bool, true, false, List, [], ◌∷◌, ◌++◌, length, get_or, set, slice_get, Option, Some, None, IsSome, take, drop, append_assoc, subst, ◌+◌, refl, sym, ◌∙◌, ap, arith}
use Rattle.std.specs.List.{AllByRecursion}
use Rattle.std.proofs.lemmas.List.{append-nil, get_or_past, map-append, length-map, get_or-map, take_more, take_more_set, drop_more, drop_all, get_or_default}
use Rattle.std.specs.Prelude.{option_to_list}
use Rattle.std.proofs.lemmas.List.Elements.{All-get_or, All-from_recursion, recursion_from_All}
use Rattle.std.proofs.lemmas.Bool.{cases_Bool, cases_lt}
use Rattle.fr_model.specs.Permutations.{preimage}
use Rattle.fr_model.specs.Systems.{Factor, System, IsWreath, IsSystem, wreath_at, section_at, inverse_factor, inverse_product, factor_output, factor_section, product_output, product_section}
use Rattle.fr_model.specs.FreeWords.{cancel, cons_reduced, reduced, IsReduced}
use Rattle.fr_block.specs.Blocks.{AreNames, ends_against, factor_of, product_of}
use Rattle.fr_block.specs.declared.block.Factor.{Factor as Member}
use Rattle.fr_model.proofs.SystemLaws.{product_output-append, product_section-append}
use Rattle.fr_model.proofs.FreeWordLaws.{inverse_from, IsReduced-reduced, reduced-kept, reduced-cancels, reduced-reduced_append}

IsReduced-prefix : (vs gs : List Factor) → IsReduced (vs ++ gs) → IsReduced vs
IsReduced-prefix [] gs h = tt
IsReduced-prefix (v ∷ []) gs h = tt
IsReduced-prefix (v ∷ w ∷ vs) gs h = (h.0, IsReduced-prefix (w ∷ vs) gs h.1)

IsReduced-push : (vs : List Factor) (f : Factor) → IsReduced vs → ends_against vs f ≡ false → IsReduced (vs ++ f ∷ [])
IsReduced-push [] f h last = tt
IsReduced-push (v ∷ []) f h last = (last, tt)
IsReduced-push (v ∷ w ∷ vs) f h last = (h.0, IsReduced-push (w ∷ vs) f h.1 last)

append_two : (vs : List Factor) (g f : Factor) → (vs ++ g ∷ []) ++ f ∷ [] ≡ vs ++ g ∷ f ∷ []
append_two [] g f = refl
append_two (v ∷ vs) g f = ap (λ l. v ∷ l) (append_two vs g f)

ends_last : (vs : List Factor) (g f : Factor) → ends_against (vs ++ g ∷ []) f ≡ cancel g f
ends_last [] g f = refl
ends_last (v ∷ []) g f = refl
ends_last (v ∷ w ∷ vs) g f = ends_last (w ∷ vs) g f

-- a member that is inverse to the last takes it away
pub reduced-pop : (vs : List Factor) (g f : Factor) → IsReduced (vs ++ g ∷ []) → ends_against (vs ++ g ∷ []) f ≡ true → reduced ((vs ++ g ∷ []) ++ f ∷ []) ≡ vs
reduced-pop vs g f h last =
    let i : f ≡ inverse_factor g = inverse_from g f (sym (ends_last vs g f) ∙ last) in
    ap reduced (append_two vs g f ∙ ap (λ e. vs ++ g ∷ e ∷ []) i) ∙ reduced-cancels vs g [] ∙ ap reduced (append-nil vs) ∙ reduced-kept vs (IsReduced-prefix vs (g ∷ []) h)

-- another member is kept
pub reduced-push : (vs : List Factor) (f : Factor) → IsReduced vs → ends_against vs f ≡ false → reduced (vs ++ f ∷ []) ≡ vs ++ f ∷ []
reduced-push vs f h last = reduced-kept (vs ++ f ∷ []) (IsReduced-push vs f h last)

-- the names of a product are below a bound
abbrev AreBelow : ℕ → List Factor → Type 0
AreBelow n fs = AllByRecursion (λ (f : Factor). f.name < n) fs

cons_reduced-below : (n : ℕ) (f : Factor) (fs : List Factor) → f.name < n → AreBelow n fs → AreBelow n (cons_reduced f fs)
cons_reduced-below n f [] l h = (l, tt)
cons_reduced-below n f (g ∷ gs) l h = elim (cases_Bool (cancel f g)) [
  | inl e ↦ rw e h.1
  | inr e ↦ rw e (l, h)
]

reduced-below : (n : ℕ) (fs : List Factor) → AreBelow n fs → AreBelow n (reduced fs)
reduced-below n [] h = tt
reduced-below n (f ∷ fs) h = cons_reduced-below n f (reduced fs) h.0 (reduced-below n fs h.1)

append-below : (n : ℕ) (fs gs : List Factor) → AreBelow n fs → AreBelow n gs → AreBelow n (fs ++ gs)
append-below n [] gs h k = k
append-below n (f ∷ fs) gs h k = (h.0, append-below n fs gs h.1 k)

inverse_product-below : (n : ℕ) (fs : List Factor) → AreBelow n fs → AreBelow n (inverse_product fs)
inverse_product-below n [] h = tt
inverse_product-below n (f ∷ fs) h = append-below n (inverse_product fs) (inverse_factor f ∷ []) (inverse_product-below n fs h.1) (h.0, tt)

section_at-below : (d : ℕ) (s : System) → IsSystem d s → (n x : ℕ) → n < length s → AreBelow (length s) (section_at (wreath_at s n).sections x)
section_at-below d s h n zero l = tt
section_at-below d s h n (suc k) l =
    let w : IsWreath d (length s) (wreath_at s n) = All-get_or (IsWreath d (length s)) s n _ l h in
    elim (cases_lt k (length (wreath_at s n).sections)) [
      | inl b ↦ All-get_or (AreBelow (length s)) (wreath_at s n).sections k [] b (All-from_recursion (AreBelow (length s)) (wreath_at s n).sections w.known)
      | inr b ↦ rw (get_or_past (wreath_at s n).sections k [] b) tt
    ]

factor_section-below : (d : ℕ) (s : System) → IsSystem d s → (f : Factor) (x : ℕ) → f.name < length s → AreBelow (length s) (factor_section s f x)
factor_section-below d s h f x l = by f.inverse
  where
    by : (b : Bool) → AreBelow (length s) (factor_section s (record { name = f.name; inverse = b }) x)
    by true = inverse_product-below (length s) _ (section_at-below d s h f.name (preimage (wreath_at s f.name).perm x) l)
    by false = section_at-below d s h f.name x l

product_section-below : (d : ℕ) (s : System) → IsSystem d s → (fs : List Factor) (x : ℕ) → AreBelow (length s) fs → AreBelow (length s) (product_section s fs x)
product_section-below d s h [] x k = tt
product_section-below d s h (f ∷ fs) x k = append-below (length s) (factor_section s f x) (product_section s fs (factor_output s f x)) (factor_section-below d s h f x k.0) (product_section-below d s h fs (factor_output s f x) k.1)

-- the section of a product of names of a table is one
pub AreNames-section : (d : ℕ) (s : System) → IsSystem d s → (fs : List Factor) (x : ℕ) → AreNames s fs → AreNames s (reduced (product_section s fs x))
AreNames-section d s h fs x k = All-from_recursion _ _ (reduced-below (length s) (product_section s fs x) (product_section-below d s h fs x (recursion_from_All _ fs k)))

pub AreNames-section_at : (d : ℕ) (s : System) → IsSystem d s → (n x : ℕ) → n < length s → AreNames s (section_at (wreath_at s n).sections x)
AreNames-section_at d s h n x l = All-from_recursion _ _ (section_at-below d s h n x l)

-- what ends against a member is told by the last one
pub ends_from : (ms : List Member) (f : Factor) (j : ℕ) (m : Member) → length ms - 1 ≡ j → slice_get ms j ≡ Some m → cancel (factor_of m) f ≡ ends_against (product_of ms) f
ends_from [] f j m l e = cc
ends_from (n ∷ []) f zero m l e = let i : n ≡ m = cc in rw i refl
ends_from (n ∷ []) f (suc j) m l e = absurd (omega (arith, l))
ends_from (n ∷ k ∷ ms) f zero m l e = absurd (omega (arith, l))
ends_from (n ∷ k ∷ ms) f (suc j) m l e = ends_from (k ∷ ms) f j m (omega (arith, l)) e

-- one member fewer
pub popped : (before after : List Member) (o : Option Member) (f : Factor) → before ≡ after ++ option_to_list o → (0 < length before → IsSome o) → IsReduced (product_of before) → ends_against (product_of before) f ≡ true → product_of after ≡ reduced (product_of before ++ f ∷ [])
popped [] after None f e z h l = cc
popped (b ∷ bs) after None f e z h l = let k : false ≡ true = z (omega arith) in cc
popped before after (Some g) f e z h l =
    let e' : product_of before ≡ product_of after ++ factor_of g ∷ [] = ap product_of e ∙ map-append factor_of after (g ∷ []) in
    sym (ap (λ vs. reduced (vs ++ f ∷ [])) e' ∙ reduced-pop (product_of after) (factor_of g) f (subst IsReduced e' h) (ap (λ vs. ends_against vs f) (sym e') ∙ l))

-- one member more
pub pushed : (before after : List Member) (m : Member) → after ≡ before ++ m ∷ [] → IsReduced (product_of before) → ends_against (product_of before) (factor_of m) ≡ false → product_of after ≡ reduced (product_of before ++ factor_of m ∷ [])
pushed before after m e h l = ap product_of e ∙ map-append factor_of before (m ∷ []) ∙ sym (reduced-push (product_of before) (factor_of m) h l)

-- the first n places of a buffer hold a reduced product: its last member
pub ends_at : (ms : List Member) (n : ℕ) (z : Member) (f : Factor) → 0 < n → n ≤ length ms → cancel (factor_of (get_or ms (n - 1) z)) f ≡ ends_against (product_of (take n ms)) f
ends_at ms n z f some l =
    let e : product_of (take n ms) ≡ product_of (take (n - 1) ms) ++ factor_of (get_or ms (n - 1) z) ∷ [] = ap (λ k. product_of (take k ms)) (omega (arith, some)) ∙ ap product_of (take_more ms (n - 1) z (omega (arith, some, l))) ∙ map-append factor_of (take (n - 1) ms) (get_or ms (n - 1) z ∷ []) in
    sym (ap (λ vs. ends_against vs f) e ∙ ends_last (product_of (take (n - 1) ms)) (factor_of (get_or ms (n - 1) z)) f)

-- without it
pub popped_at : (ms : List Member) (n : ℕ) (z : Member) (f : Factor) → 0 < n → n ≤ length ms → IsReduced (product_of (take n ms)) → ends_against (product_of (take n ms)) f ≡ true → product_of (take (n - 1) ms) ≡ reduced (product_of (take n ms) ++ f ∷ [])
popped_at ms n z f some l h e = popped (take n ms) (take (n - 1) ms) (Some (get_or ms (n - 1) z)) f (ap (λ k. take k ms) (omega (arith, some)) ∙ take_more ms (n - 1) z (omega (arith, some, l))) (λ t. refl) h e

-- and with one more
pub pushed_at : (ms : List Member) (n : ℕ) (m : Member) → n < length ms → IsReduced (product_of (take n ms)) → ends_against (product_of (take n ms)) (factor_of m) ≡ false → product_of (take (n + 1) (set ms n m)) ≡ reduced (product_of (take n ms) ++ factor_of m ∷ [])
pushed_at ms n m l h e = pushed (take n ms) (take (n + 1) (set ms n m)) m (take_more_set ms n m l) h e

pub IsReduced-is : (w fs : List Factor) → w ≡ reduced fs → IsReduced w
IsReduced-is w fs e = subst IsReduced (sym e) (IsReduced-reduced fs)

-- a reduced product with one more member, reduced
reduced_more : (w fs gs : List Factor) (f : Factor) → w ≡ reduced (fs ++ gs) → reduced (w ++ f ∷ []) ≡ reduced (fs ++ (gs ++ f ∷ []))
reduced_more w fs gs f e = ap (λ v. reduced (v ++ f ∷ [])) e ∙ reduced-reduced_append (fs ++ gs) (f ∷ []) ∙ ap reduced (append_assoc fs gs (f ∷ []))

-- the loops that append a product, and its inverse
pub append_start : (old : List Factor) → IsReduced old → old ≡ reduced (old ++ [])
append_start old h = sym (ap reduced (append-nil old) ∙ reduced-kept old h)

pub product_more : (ms : List Member) (i : ℕ) (z : Member) → i < length ms → product_of (take (i + 1) ms) ≡ product_of (take i ms) ++ factor_of (get_or ms i z) ∷ []
product_more ms i z l = ap product_of (take_more ms i z l) ∙ map-append factor_of (take i ms) (get_or ms i z ∷ [])

pub append_more : (old : List Factor) (ms : List Member) (i : ℕ) (z : Member) (w w' : List Factor) → i < length ms → w ≡ reduced (old ++ product_of (take i ms)) → w' ≡ reduced (w ++ factor_of (get_or ms i z) ∷ []) → w' ≡ reduced (old ++ product_of (take (i + 1) ms))
append_more old ms i z w w' l e n = n ∙ reduced_more w old (product_of (take i ms)) (factor_of (get_or ms i z)) e ∙ ap (λ g. reduced (old ++ g)) (sym (product_more ms i z l))

pub inverse_more : (old : List Factor) (ms : List Member) (k : ℕ) (m : Member) (w w' : List Factor) → k < length ms → m ≡ get_or ms k m → w ≡ reduced (old ++ inverse_product (product_of (drop (k + 1) ms))) → w' ≡ reduced (w ++ inverse_factor (factor_of m) ∷ []) → w' ≡ reduced (old ++ inverse_product (product_of (drop k ms)))
inverse_more old ms k m w w' l is e n =
    let more : drop k ms ≡ m ∷ drop (k + 1) ms = drop_more ms k m l ∙ ap (λ j. j ∷ drop (k + 1) ms) (sym is) in
    n ∙ reduced_more w old (inverse_product (product_of (drop (k + 1) ms))) (inverse_factor (factor_of m)) e ∙ ap (λ g. reduced (old ++ inverse_product (product_of g))) (sym more)

-- one member more: what it puts out, and its section
pub output_more : (s : System) (ms : List Member) (i : ℕ) (z : Member) (x : ℕ) → i < length ms → product_output s (product_of (take (i + 1) ms)) x ≡ factor_output s (factor_of (get_or ms i z)) (product_output s (product_of (take i ms)) x)
output_more s ms i z x l = ap (λ fs. product_output s fs x) (product_more ms i z l) ∙ product_output-append s (product_of (take i ms)) (factor_of (get_or ms i z) ∷ []) x

section_more : (s : System) (ms : List Member) (i : ℕ) (z : Member) (x : ℕ) → i < length ms → product_section s (product_of (take (i + 1) ms)) x ≡ product_section s (product_of (take i ms)) x ++ factor_section s (factor_of (get_or ms i z)) (product_output s (product_of (take i ms)) x)
section_more s ms i z x l =
    ap (λ fs. product_section s fs x) (product_more ms i z l) ∙ product_section-append s (product_of (take i ms)) (factor_of (get_or ms i z) ∷ []) x
    ∙ ap (λ g. product_section s (product_of (take i ms)) x ++ g) (append-nil (factor_section s (factor_of (get_or ms i z)) (product_output s (product_of (take i ms)) x)))

pub section_step : (s : System) (ms : List Member) (i : ℕ) (z : Member) (x y : ℕ) (w w' : List Factor) → i < length ms → y ≡ product_output s (product_of (take i ms)) x → w ≡ reduced (product_section s (product_of (take i ms)) x) → w' ≡ reduced (w ++ factor_section s (factor_of (get_or ms i z)) y) → w' ≡ reduced (product_section s (product_of (take (i + 1) ms)) x)
section_step s ms i z x y w w' l o e n =
    let g = factor_section s (factor_of (get_or ms i z)) (product_output s (product_of (take i ms)) x) in
    n ∙ ap (λ v. reduced (w ++ factor_section s (factor_of (get_or ms i z)) v)) o ∙ ap (λ v. reduced (v ++ g)) e ∙ reduced-reduced_append (product_section s (product_of (take i ms)) x) g ∙ ap reduced (sym (section_more s ms i z x l))

-- a member is a name of the table
pub known_at : (s : System) (ms : List Member) (i : ℕ) (z : Member) → AreNames s (product_of ms) → i < length ms → (get_or ms i z).name < length s
known_at s ms i z h l =
    let P : Factor → Type 0 = λ f. f.name < length s in
    subst P (get_or-map factor_of ms i z (factor_of z) l) (h i (factor_of z) (rw (length-map ms factor_of) l))

pub inverse_start : (old : List Factor) (ms : List Member) (k : ℕ) → k ≡ length ms → IsReduced old → old ≡ reduced (old ++ inverse_product (product_of (drop k ms)))
inverse_start old ms k e h = append_start old h ∙ ap (λ l. reduced (old ++ inverse_product (product_of l))) (sym (drop_all k ms (omega (arith, e))))

pub inverse_next : (old : List Factor) (ms : List Member) (i k : ℕ) (z : Member) (w w' : List Factor) → i < length ms → k ≡ length ms - 1 - i → w ≡ reduced (old ++ inverse_product (product_of (drop (length ms - i) ms))) → w' ≡ reduced (w ++ inverse_factor (factor_of (get_or ms k z)) ∷ []) → w' ≡ reduced (old ++ inverse_product (product_of (drop (length ms - (i + 1)) ms)))
inverse_next old ms i k z w w' l f e n =
    let a : length ms - i ≡ k + 1 = omega (arith, l, f) in
    let b : k ≡ length ms - (i + 1) = omega (arith, l, f) in
    let c : k < length ms = omega (arith, l, f) in
    inverse_more old ms k (get_or ms k z) w w' c (get_or_default ms k z _ c) (e ∙ ap (λ j. reduced (old ++ inverse_product (product_of (drop j ms)))) a) n ∙ ap (λ j. reduced (old ++ inverse_product (product_of (drop j ms)))) b

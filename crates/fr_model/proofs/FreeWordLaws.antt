-- The section of a product of names and inverses at a letter, and free reduction.
use Rattle.std.proofs.Common.{ℕ, ◌≡◌, inl, inr, Bool, true, false, not, eqb, List, [], ◌∷◌, ◌++◌, drop, refl, sym, ◌∙◌, ap}
use Rattle.std.proofs.lemmas.Bool.{cases_Bool, and_parts, eqb-true, eq-eqb}
use Rattle.fr_model.specs.Systems.{Factor, System, IsSystem, act_product, inverse_factor, product_section, factor_section, factor_output}
use Rattle.fr_model.specs.Terms.{Section, product_term, IsAlike}
use Rattle.fr_model.specs.FreeWords.{differ, cancel, cons_reduced, reduced, IsReduced, section_word}
use Rattle.fr_model.proofs.SystemLaws.{act_product-append, act_product-inverse, inverse_factor-inverse_factor}
use Rattle.fr_model.proofs.AlikeLaws.{alike_sym, alike_trans, alike_section, section_section, section_nil}
use Rattle.fr_model.proofs.TermLaws.{act-product_term}

pub section_product_term : (s : System) (fs : List Factor) (x : ℕ) → IsAlike (Section (product_term s fs) (x ∷ [])) (product_term s (product_section s fs x))
section_product_term s fs x = record { images = λ w. ap (drop 1) (act-product_term s fs (x ∷ w)) ∙ sym (act-product_term s (product_section s fs x) w) }

pub inverse_from : (f g : Factor) → cancel f g ≡ true → g ≡ inverse_factor f
inverse_from f g h =
    let p = and_parts (eqb f.name g.name) (differ f.inverse g.inverse) h in
    let n = eqb-true f.name g.name p.0 in
    let b = opposite f.inverse g.inverse p.1 in
    rw (n, ← b)
  where
    opposite : (a b : Bool) → differ a b ≡ true → b ≡ not a
    opposite true true h = cc
    opposite true false h = refl
    opposite false true h = refl
    opposite false false h = cc

act-cons_reduced : (d : ℕ) (s : System) → IsSystem d s → (f : Factor) (fs : List Factor) (w : List ℕ) → act_product s (cons_reduced f fs) w ≡ act_product s (f ∷ fs) w
act-cons_reduced d s h f [] w = refl
act-cons_reduced d s h f (g ∷ gs) w = elim (cases_Bool (cancel f g)) [
  | inl e ↦
      let i = inverse_from f g e in
      rw e (sym (act_product-append s (f ∷ g ∷ []) gs w ∙ ap (act_product s gs) (act_product-append s (f ∷ []) (g ∷ []) w ∙ rw i (act_product-inverse d s h (f ∷ []) w))))
  | inr e ↦ rw e refl
]

pub act-reduced : (d : ℕ) (s : System) → IsSystem d s → (fs : List Factor) (w : List ℕ) → act_product s (reduced fs) w ≡ act_product s fs w
act-reduced d s h [] w = refl
act-reduced d s h (f ∷ fs) w =
    act-cons_reduced d s h f (reduced fs) w ∙ act_product-append s (f ∷ []) (reduced fs) w
    ∙ act-reduced d s h fs (act_product s (f ∷ []) w) ∙ sym (act_product-append s (f ∷ []) fs w)

pub alike_reduced : (d : ℕ) (s : System) → IsSystem d s → (fs : List Factor) → IsAlike (product_term s (reduced fs)) (product_term s fs)
alike_reduced d s h fs = record { images = λ w. act-product_term s (reduced fs) w ∙ act-reduced d s h fs w ∙ sym (act-product_term s fs w) }

-- the section word acts as the section
pub alike_section_word : (d : ℕ) (s : System) → IsSystem d s → (fs : List Factor) (v : List ℕ) → IsAlike (Section (product_term s fs) v) (product_term s (section_word s fs v))
alike_section_word d s h fs [] = section_nil (product_term s fs)
alike_section_word d s h fs (x ∷ v) =
    let gs = product_section s fs x in
    alike_trans (alike_sym (section_section (product_term s fs) (x ∷ []) v))
    (alike_trans (alike_section v (alike_trans (section_product_term s fs x) (alike_sym (alike_reduced d s h gs))))
    (alike_section_word d s h (reduced gs) v))

-- ---- free reduction: no name is left next to its inverse, and a product of which none stands so is kept
IsReduced-tail : (f : Factor) (fs : List Factor) → IsReduced (f ∷ fs) → IsReduced fs
IsReduced-tail f [] h = tt
IsReduced-tail f (g ∷ gs) h = h.1

IsReduced-cons : (f : Factor) (fs : List Factor) → IsReduced fs → IsReduced (cons_reduced f fs)
IsReduced-cons f [] h = tt
IsReduced-cons f (g ∷ gs) h = elim (cases_Bool (cancel f g)) [
  | inl e ↦ rw e (IsReduced-tail g gs h)
  | inr e ↦ rw e (e, h)
]

pub IsReduced-reduced : (fs : List Factor) → IsReduced (reduced fs)
IsReduced-reduced [] = tt
IsReduced-reduced (f ∷ fs) = IsReduced-cons f (reduced fs) (IsReduced-reduced fs)

cons_reduced-kept : (f : Factor) (fs : List Factor) → IsReduced (f ∷ fs) → cons_reduced f fs ≡ f ∷ fs
cons_reduced-kept f [] h = refl
cons_reduced-kept f (g ∷ gs) h = rw h.0 refl

pub reduced-kept : (fs : List Factor) → IsReduced fs → reduced fs ≡ fs
reduced-kept [] h = refl
reduced-kept (f ∷ fs) h = rw (reduced-kept fs (IsReduced-tail f fs h)) (cons_reduced-kept f fs h)

pub reduced-reduced : (fs : List Factor) → reduced (reduced fs) ≡ reduced fs
reduced-reduced fs = reduced-kept (reduced fs) (IsReduced-reduced fs)

pub reduced-append_reduced : (fs gs : List Factor) → reduced (fs ++ reduced gs) ≡ reduced (fs ++ gs)
reduced-append_reduced [] gs = reduced-reduced gs
reduced-append_reduced (f ∷ fs) gs = ap (cons_reduced f) (reduced-append_reduced fs gs)

differ-not : (b : Bool) → differ b (not b) ≡ true
differ-not true = refl
differ-not false = refl

cancel-inverse : (f : Factor) → cancel f (inverse_factor f) ≡ true
cancel-inverse f = rw (eq-eqb f.name f.name refl) (differ-not f.inverse)

-- a name and its inverse go
cons_reduced-inverse : (f : Factor) (fs : List Factor) → IsReduced fs → cons_reduced f (cons_reduced (inverse_factor f) fs) ≡ fs
cons_reduced-inverse f [] h = rw (cancel-inverse f) refl
cons_reduced-inverse f (g ∷ gs) h = elim (cases_Bool (cancel (inverse_factor f) g)) [
  | inl e ↦
      let i : g ≡ f = inverse_from (inverse_factor f) g e ∙ inverse_factor-inverse_factor f in
      rw e (rw (sym i) (cons_reduced-kept g gs h))
  | inr e ↦ rw (e, cancel-inverse f) refl
]

pub reduced-cancels : (fs : List Factor) (f : Factor) (gs : List Factor) → reduced (fs ++ f ∷ inverse_factor f ∷ gs) ≡ reduced (fs ++ gs)
reduced-cancels [] f gs = cons_reduced-inverse f (reduced gs) (IsReduced-reduced gs)
reduced-cancels (x ∷ fs) f gs = ap (cons_reduced x) (reduced-cancels fs f gs)

pub reduced-product_section : (s : System) (f : Factor) (fs : List Factor) (x : ℕ) → reduced (product_section s (f ∷ fs) x) ≡ reduced (factor_section s f x ++ reduced (product_section s fs (factor_output s f x)))
reduced-product_section s f fs x = sym (reduced-append_reduced (factor_section s f x) (product_section s fs (factor_output s f x)))

-- a part that goes before may be reduced first
pub reduced-reduced_append : (fs gs : List Factor) → reduced (reduced fs ++ gs) ≡ reduced (fs ++ gs)
reduced-reduced_append [] gs = refl
reduced-reduced_append (f ∷ fs) gs = step (reduced fs) (IsReduced-reduced fs) ∙ ap (cons_reduced f) (reduced-reduced_append fs gs)
  where
    step : (rs : List Factor) → IsReduced rs → reduced (cons_reduced f rs ++ gs) ≡ cons_reduced f (reduced (rs ++ gs))
    step [] h = refl
    step (g ∷ rs) h = elim (cases_Bool (cancel f g)) [
      | inl e ↦
          let i = inverse_from f g e in
          rw e (sym (rw i (reduced-cancels [] f (rs ++ gs))))
      | inr e ↦ rw e refl
    ]

pub section_word-append : (s : System) (fs : List Factor) (v : List ℕ) (x : ℕ) → section_word s fs (v ++ x ∷ []) ≡ reduced (product_section s (section_word s fs v) x)
section_word-append s fs [] x = refl
section_word-append s fs (y ∷ v) x = section_word-append s (reduced (product_section s fs y)) v x

-- The action of terms: it keeps the length and the beginning of a word, back undoes it, and terms that act alike may stand for one another.
use Rattle.std.proofs.Common.{ℕ, zero, suc, ◌≡◌, Bool, true, false, List, [], ◌∷◌, ◌++◌, length, take, drop, refl, sym, ◌∙◌, ap, arith, append_assoc, length-append, length-drop}
use Rattle.std.proofs.lemmas.List.{append-nil, take_at, drop_at, take-append-drop, drop-take, drop-append-le, nil_from_length}
use Rattle.fr_model.specs.Words.{IsLetter, IsWord}
use Rattle.fr_model.specs.Permutations.{image, preimage}
use Rattle.fr_model.specs.Systems.{Factor, System, wreath_at, section_at, act_product, inverse_factor, inverse_product}
use Rattle.fr_model.specs.Terms.{Term, One, Name, Inverse, Product, Section, act, back, IsTerm, factor_term, product_term}
use Rattle.fr_model.proofs.SystemLaws.{act_product-append, act_product-nil, length-act_product, act_product_split, act_product-inverse, act_product-IsWord, act_product_past, product_after}

-- the length stays
lengths : (t : Term) (w : List ℕ) → (length (act t w) ≡ length w) × (length (back t w) ≡ length w)
lengths One w = (refl, refl)
lengths (Name s n) w = (length-act_product s _ w, length-act_product s _ w)
lengths (Inverse t) w = let h = lengths t w in (h.1, h.0)
lengths (Product t u) w = ((lengths u (act t w)).0 ∙ (lengths t w).0, (lengths t (back u w)).1 ∙ (lengths u w).1)
lengths (Section t v) w = (
  omega (arith, length-drop (length v) (act t (v ++ w)), length-append v w, (lengths t (v ++ w)).0),
  omega (arith, length-drop (length v) (back t (act t v ++ w)), length-append (act t v) w, (lengths t v).0, (lengths t (act t v ++ w)).1),
)

pub length-act : (t : Term) (w : List ℕ) → length (act t w) ≡ length w
length-act t w = (lengths t w).0

pub length-back : (t : Term) (w : List ℕ) → length (back t w) ≡ length w
length-back t w = (lengths t w).1

split_at : (n : ℕ) (xs p : List ℕ) → take n xs ≡ p → xs ≡ p ++ drop n xs
split_at n xs p e = sym (take-append-drop n xs) ∙ ap (λ l. l ++ drop n xs) e

-- the beginning of the image depends on the beginning of the word alone
beginnings : (t : Term) (v w : List ℕ) → (take (length v) (act t (v ++ w)) ≡ act t v) × (take (length v) (back t (v ++ w)) ≡ back t v)
beginnings One v w = (take_at v w (length v) refl, take_at v w (length v) refl)
beginnings (Name s n) v w = (
  rw (act_product_split s _ v w) (take_at _ _ (length v) (length-act_product s _ v)),
  rw (act_product_split s _ v w) (take_at _ _ (length v) (length-act_product s _ v)),
)
beginnings (Inverse t) v w = let h = beginnings t v w in (h.1, h.0)
beginnings (Product t u) v w =
    let r = drop (length v) (act t (v ++ w)) in
    let q = drop (length v) (back u (v ++ w)) in (
      ap (λ z. take (length v) (act u z)) (split_at (length v) (act t (v ++ w)) (act t v) (beginnings t v w).0)
          ∙ ap (λ n. take n (act u (act t v ++ r))) (sym (length-act t v)) ∙ (beginnings u (act t v) r).0,
      ap (λ z. take (length v) (back t z)) (split_at (length v) (back u (v ++ w)) (back u v) (beginnings u v w).1)
          ∙ ap (λ n. take n (back t (back u v ++ q))) (sym (length-back u v)) ∙ (beginnings t (back u v) q).1,
    )
beginnings (Section t x) v w =
    let y = act t x in (
      sym (drop-take (length x) (length v) (act t (x ++ (v ++ w))))
          ∙ ap (drop (length x)) (rw (length-append x v, append_assoc x v w) at (beginnings t (x ++ v) w).0),
      rw (← length-act t x) (sym (drop-take (length y) (length v) (back t (y ++ (v ++ w))))
          ∙ ap (drop (length y)) (rw (length-append y v, append_assoc y v w) at (beginnings t (y ++ v) w).1)),
    )

-- a word in two parts: the second is acted on by the section at the first
pub act-append : (t : Term) (v w : List ℕ) → act t (v ++ w) ≡ act t v ++ act (Section t v) w
act-append t v w = split_at (length v) (act t (v ++ w)) (act t v) (beginnings t v w).0

back-append : (t : Term) (v w : List ℕ) → back t (v ++ w) ≡ back t v ++ drop (length v) (back t (v ++ w))
back-append t v w = split_at (length v) (back t (v ++ w)) (back t v) (beginnings t v w).1

-- back undoes act, and act undoes back
undone : (d : ℕ) (t : Term) → IsTerm d t → (w : List ℕ) → (back t (act t w) ≡ w) × (act t (back t w) ≡ w)
undone d One h w = (refl, refl)
undone d (Name s n) h w = (
  act_product-inverse d s h.0 (record { name = n; inverse = false } ∷ []) w,
  act_product-inverse d s h.0 (record { name = n; inverse = true } ∷ []) w,
)
undone d (Inverse t) h w = let r = undone d t h w in (r.1, r.0)
undone d (Product t u) h w = (
  ap (back t) (undone d u h.1 (act t w)).0 ∙ (undone d t h.0 w).0,
  ap (act u) (undone d t h.0 (back u w)).1 ∙ (undone d u h.1 w).1,
)
undone d (Section t v) h w =
    let y = act t v in
    let e : back t (y ++ w) ≡ v ++ drop (length v) (back t (y ++ w)) =
    rw (length-act t v, (undone d t h.0 v).0) at (back-append t y w) in (
      ap (λ l. drop (length v) (back t l)) (sym (act-append t v w)) ∙ ap (drop (length v)) (undone d t h.0 (v ++ w)).0 ∙ drop_at v w (length v) refl,
      ap (λ l. drop (length v) (act t l)) (sym e) ∙ ap (drop (length v)) (undone d t h.0 (y ++ w)).1 ∙ drop_at y w (length v) (length-act t v),
    )

pub back-act : (d : ℕ) (t : Term) → IsTerm d t → (w : List ℕ) → back t (act t w) ≡ w
back-act d t h w = (undone d t h w).0

pub act-back : (d : ℕ) (t : Term) → IsTerm d t → (w : List ℕ) → act t (back t w) ≡ w
act-back d t h w = (undone d t h w).1

pub IsWord-append : (d : ℕ) (v w : List ℕ) → IsWord d v → IsWord d w → IsWord d (v ++ w)
IsWord-append d [] w g h = h
IsWord-append d (x ∷ v) w g h = (g.0, IsWord-append d v w g.1 h)

IsWord-drop : (d n : ℕ) (w : List ℕ) → IsWord d w → IsWord d (drop n w)
IsWord-drop d zero w h = h
IsWord-drop d (suc n) [] h = tt
IsWord-drop d (suc n) (x ∷ w) h = IsWord-drop d n w h.1

-- words go to words
words : (d : ℕ) (t : Term) → IsTerm d t → (w : List ℕ) → IsWord d w → IsWord d (act t w) × IsWord d (back t w)
words d One h w g = (g, g)
words d (Name s n) h w g = (act_product-IsWord d s h.0 _ w g, act_product-IsWord d s h.0 _ w g)
words d (Inverse t) h w g = let r = words d t h w g in (r.1, r.0)
words d (Product t u) h w g = ((words d u h.1 _ (words d t h.0 w g).0).0, (words d t h.0 _ (words d u h.1 w g).1).1)
words d (Section t v) h w g = (
  IsWord-drop d (length v) _ (words d t h.0 _ (IsWord-append d v w h.1 g)).0,
  IsWord-drop d (length v) _ (words d t h.0 _ (IsWord-append d (act t v) w (words d t h.0 v h.1).0 g)).1,
)

pub act-IsWord : (d : ℕ) (t : Term) → IsTerm d t → (w : List ℕ) → IsWord d w → IsWord d (act t w)
act-IsWord d t h w g = (words d t h w g).0

pub back-IsWord : (d : ℕ) (t : Term) → IsTerm d t → (w : List ℕ) → IsWord d w → IsWord d (back t w)
back-IsWord d t h w g = (words d t h w g).1

-- a number that is no letter stays, with all that follows it
pasts : (d : ℕ) (t : Term) → IsTerm d t → (v : List ℕ) (x : ℕ) (w : List ℕ) → ¬ IsLetter d x → (act t (v ++ x ∷ w) ≡ act t v ++ x ∷ w) × (back t (v ++ x ∷ w) ≡ back t v ++ x ∷ w)
pasts d One h v x w n = (refl, refl)
pasts d (Name s k) h v x w n = (
  act_product_split s _ v (x ∷ w) ∙ ap (λ l. act_product s (record { name = k; inverse = false } ∷ []) v ++ l) (act_product_past d s h.0 (product_after s (record { name = k; inverse = false } ∷ []) v) x w n),
  act_product_split s _ v (x ∷ w) ∙ ap (λ l. act_product s (record { name = k; inverse = true } ∷ []) v ++ l) (act_product_past d s h.0 (product_after s (record { name = k; inverse = true } ∷ []) v) x w n),
)
pasts d (Inverse t) h v x w n = let r = pasts d t h v x w n in (r.1, r.0)
pasts d (Product t u) h v x w n = (
  ap (act u) (pasts d t h.0 v x w n).0 ∙ (pasts d u h.1 (act t v) x w n).0,
  ap (back t) (pasts d u h.1 v x w n).1 ∙ (pasts d t h.0 (back u v) x w n).1,
)
pasts d (Section t y) h v x w n =
    let z = act t y in (
      rw (← append_assoc y v (x ∷ w), (pasts d t h.0 (y ++ v) x w n).0) (drop-append-le (length y) (act t (y ++ v)) (x ∷ w) (omega (arith, length-act t (y ++ v), length-append y v))),
      rw (← append_assoc z v (x ∷ w), (pasts d t h.0 (z ++ v) x w n).1) (drop-append-le (length y) (back t (z ++ v)) (x ∷ w) (omega (arith, length-back t (z ++ v), length-append z v, length-act t y))),
    )

pub act_past_after : (d : ℕ) (t : Term) → IsTerm d t → (v : List ℕ) (x : ℕ) (w : List ℕ) → ¬ IsLetter d x → act t (v ++ x ∷ w) ≡ act t v ++ x ∷ w
act_past_after d t h v x w n = (pasts d t h v x w n).0

pub act_past : (d : ℕ) (t : Term) → IsTerm d t → (x : ℕ) (w : List ℕ) → ¬ IsLetter d x → act t (x ∷ w) ≡ x ∷ w
act_past d t h x w n = (pasts d t h [] x w n).0 ∙ ap (λ l. l ++ x ∷ w) (act-nil t)
  where
    act-nil : (t : Term) → act t [] ≡ []
    act-nil t = nil_from_length (act t []) (length-act t [])

-- the table of the action: what a name does at a letter, and a product of names and inverses as a term
back_factor : (s : System) (b : Bool) (n : ℕ) (w : List ℕ) →
    (act (factor_term s (record { name = n; inverse = b })) w ≡ act_product s (record { name = n; inverse = b } ∷ []) w)
    × (back (factor_term s (record { name = n; inverse = b })) w ≡ act_product s (inverse_factor (record { name = n; inverse = b }) ∷ []) w)
back_factor s true n w = (refl, refl)
back_factor s false n w = (refl, refl)

act_products : (s : System) (fs : List Factor) (w : List ℕ) → (act (product_term s fs) w ≡ act_product s fs w) × (back (product_term s fs) w ≡ act_product s (inverse_product fs) w)
act_products s [] w = (sym (act_product-nil s w), sym (act_product-nil s w))
act_products s (f ∷ fs) w = (
  ap (act (product_term s fs)) (back_factor s f.inverse f.name w).0 ∙ (act_products s fs _).0 ∙ sym (act_product-append s (f ∷ []) fs w),
  ap (back (factor_term s f)) (act_products s fs w).1 ∙ (back_factor s f.inverse f.name _).1 ∙ sym (act_product-append s (inverse_product fs) (inverse_factor f ∷ []) w),
)

pub act-name : (s : System) (n x : ℕ) (w : List ℕ) → act (Name s n) (x ∷ w) ≡ image (wreath_at s n).perm x ∷ act (product_term s (section_at (wreath_at s n).sections x)) w
act-name s n x w = rw (append-nil (section_at (wreath_at s n).sections x), (act_products s (section_at (wreath_at s n).sections x) w).0)

pub back-name : (s : System) (n y : ℕ) (w : List ℕ) → back (Name s n) (y ∷ w) ≡ preimage (wreath_at s n).perm y ∷ back (product_term s (section_at (wreath_at s n).sections (preimage (wreath_at s n).perm y))) w
back-name s n y w = rw (append-nil (inverse_product (section_at (wreath_at s n).sections (preimage (wreath_at s n).perm y))), (act_products s (section_at (wreath_at s n).sections (preimage (wreath_at s n).perm y)) w).1)

pub act-product_term : (s : System) (fs : List Factor) (w : List ℕ) → act (product_term s fs) w ≡ act_product s fs w
act-product_term s fs w = (act_products s fs w).0

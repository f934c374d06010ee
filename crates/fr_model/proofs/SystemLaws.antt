-- The action of products of names and inverses: on a product, on a word in two parts, and of an inverse.
use Rattle.std.proofs.Common.{ℕ, zero, suc, ◌≡◌, ◌≤◌, inl, inr, Bool, true, false, not, List, [], ◌∷◌, ◌++◌, length, refl, sym, ◌∙◌, ap, arith, append_assoc}
use Rattle.std.proofs.lemmas.List.{append-nil, get_or_past}
use Rattle.std.proofs.lemmas.List.Elements.{All-get_or}
use Rattle.std.proofs.lemmas.Bool.{cases_lt}
use Rattle.fr_model.specs.Words.{IsLetter, IsWord}
use Rattle.fr_model.specs.Permutations.{IsPermutation, image, preimage}
use Rattle.fr_model.specs.Systems.{Factor, System, IsWreath, IsSystem, wreath_at, section_at, inverse_factor, inverse_product, factor_output, factor_section, product_output, product_section, act_product}
use Rattle.fr_model.proofs.PermutationLaws.{image-IsLetter, preimage-IsLetter, image_past, preimage_past, preimage-image, image-preimage}

-- a product of products
pub product_output-append : (s : System) (f g : List Factor) (x : ℕ) → product_output s (f ++ g) x ≡ product_output s g (product_output s f x)
product_output-append s [] g x = refl
product_output-append s (y ∷ f) g x = product_output-append s f g (factor_output s y x)

pub product_section-append : (s : System) (f g : List Factor) (x : ℕ) → product_section s (f ++ g) x ≡ product_section s f x ++ product_section s g (product_output s f x)
product_section-append s [] g x = refl
product_section-append s (y ∷ f) g x = ap (λ l. factor_section s y x ++ l) (product_section-append s f g (factor_output s y x)) ∙ sym (append_assoc (factor_section s y x) _ _)

pub act_product-append : (s : System) (f g : List Factor) (w : List ℕ) → act_product s (f ++ g) w ≡ act_product s g (act_product s f w)
act_product-append s f g [] = refl
act_product-append s f g (x ∷ w) = rw (product_output-append s f g x, product_section-append s f g x, act_product-append s (product_section s f x) (product_section s g (product_output s f x)) w)

pub act_product-nil : (s : System) (w : List ℕ) → act_product s [] w ≡ w
act_product-nil s [] = refl
act_product-nil s (x ∷ w) = ap (λ l. x ∷ l) (act_product-nil s w)

pub length-act_product : (s : System) (f : List Factor) (w : List ℕ) → length (act_product s f w) ≡ length w
length-act_product s f [] = refl
length-act_product s f (x ∷ w) = ap suc (length-act_product s (product_section s f x) w)

-- what is left of a product behind a word
abbrev pub product_after : System → List Factor → List ℕ → List Factor
product_after s f [] = f
product_after s f (x ∷ v) = product_after s (product_section s f x) v

pub act_product_split : (s : System) (f : List Factor) (v w : List ℕ) → act_product s f (v ++ w) ≡ act_product s f v ++ act_product s (product_after s f v) w
act_product_split s f [] w = refl
act_product_split s f (x ∷ v) w = ap (λ l. product_output s f x ∷ l) (act_product_split s (product_section s f x) v w)

-- the inverse of a product
pub inverse_product-append : (f g : List Factor) → inverse_product (f ++ g) ≡ inverse_product g ++ inverse_product f
inverse_product-append [] g = sym (append-nil (inverse_product g))
inverse_product-append (y ∷ f) g = ap (λ l. l ++ inverse_factor y ∷ []) (inverse_product-append f g) ∙ append_assoc (inverse_product g) (inverse_product f) (inverse_factor y ∷ [])

not-not : (b : Bool) → not (not b) ≡ b
not-not true = refl
not-not false = refl

pub inverse_factor-inverse_factor : (y : Factor) → inverse_factor (inverse_factor y) ≡ y
inverse_factor-inverse_factor y = ap (λ b. record { name = y.name; inverse = b }) (not-not y.inverse)

pub inverse_product-inverse_product : (f : List Factor) → inverse_product (inverse_product f) ≡ f
inverse_product-inverse_product [] = refl
inverse_product-inverse_product (y ∷ f) = inverse_product-append (inverse_product f) (inverse_factor y ∷ []) ∙ rw (inverse_factor-inverse_factor y, inverse_product-inverse_product f)

-- a name past the table leaves each letter
image_nil : (x : ℕ) → image [] x ≡ x
image_nil zero = refl
image_nil (suc k) = refl

section_nil : (x : ℕ) → section_at [] x ≡ []
section_nil zero = refl
section_nil (suc k) = refl

-- at each name image and preimage undo each other
pub preimage-image_at : (d : ℕ) (s : System) → IsSystem d s → (n x : ℕ) → preimage (wreath_at s n).perm (image (wreath_at s n).perm x) ≡ x
preimage-image_at d s h n x = elim (cases_lt n (length s)) [
  | inl l ↦ preimage-image d _ x (All-get_or (IsWreath d (length s)) s n (record { perm = []; sections = [] }) l h).permutes
  | inr g ↦ rw (get_or_past s n (record { perm = []; sections = [] }) g) (image_nil x)
]

pub image-preimage_at : (d : ℕ) (s : System) → IsSystem d s → (n x : ℕ) → image (wreath_at s n).perm (preimage (wreath_at s n).perm x) ≡ x
image-preimage_at d s h n x = elim (cases_lt n (length s)) [
  | inl l ↦ image-preimage d _ x (All-get_or (IsWreath d (length s)) s n (record { perm = []; sections = [] }) l h).permutes
  | inr g ↦ rw (get_or_past s n (record { perm = []; sections = [] }) g) (image_nil x)
]

-- an inverse takes a letter back, and its section there is the inverse of the section
factor_output-inverse : (d : ℕ) (s : System) → IsSystem d s → (y : Factor) (x : ℕ) → factor_output s (inverse_factor y) (factor_output s y x) ≡ x
factor_output-inverse d s h y x = by y.inverse y.name
  where
    by : (b : Bool) (n : ℕ) → factor_output s (inverse_factor (record { name = n; inverse = b })) (factor_output s (record { name = n; inverse = b }) x) ≡ x
    by true n = image-preimage_at d s h n x
    by false n = preimage-image_at d s h n x

factor_section-inverse : (d : ℕ) (s : System) → IsSystem d s → (y : Factor) (x : ℕ) → factor_section s (inverse_factor y) (factor_output s y x) ≡ inverse_product (factor_section s y x)
factor_section-inverse d s h y x = by y.inverse y.name
  where
    by : (b : Bool) (n : ℕ) → factor_section s (inverse_factor (record { name = n; inverse = b })) (factor_output s (record { name = n; inverse = b }) x) ≡ inverse_product (factor_section s (record { name = n; inverse = b }) x)
    by true n = sym (inverse_product-inverse_product _)
    by false n = ap (λ z. inverse_product (section_at (wreath_at s n).sections z)) (preimage-image_at d s h n x)

pub product_output-inverse : (d : ℕ) (s : System) → IsSystem d s → (f : List Factor) (x : ℕ) → product_output s (inverse_product f) (product_output s f x) ≡ x
product_output-inverse d s h [] x = refl
product_output-inverse d s h (y ∷ f) x =
    product_output-append s (inverse_product f) (inverse_factor y ∷ []) _
    ∙ ap (factor_output s (inverse_factor y)) (product_output-inverse d s h f (factor_output s y x))
    ∙ factor_output-inverse d s h y x

pub product_section-inverse : (d : ℕ) (s : System) → IsSystem d s → (f : List Factor) (x : ℕ) → product_section s (inverse_product f) (product_output s f x) ≡ inverse_product (product_section s f x)
product_section-inverse d s h [] x = refl
product_section-inverse d s h (y ∷ f) x =
    let x' = factor_output s y x in
    let e = product_output-inverse d s h f x' in
    product_section-append s (inverse_product f) (inverse_factor y ∷ []) (product_output s f x')
    ∙ rw (product_section-inverse d s h f x', e, append-nil (factor_section s (inverse_factor y) x'), factor_section-inverse d s h y x) (sym (inverse_product-append (factor_section s y x) (product_section s f x')))

pub act_product-inverse : (d : ℕ) (s : System) → IsSystem d s → (f : List Factor) (w : List ℕ) → act_product s (inverse_product f) (act_product s f w) ≡ w
act_product-inverse d s h f [] = refl
act_product-inverse d s h f (x ∷ w) = rw (product_output-inverse d s h f x, product_section-inverse d s h f x, act_product-inverse d s h (product_section s f x) w)

-- letters go to letters, and a number that is no letter stays, with all that follows it
factor_output-IsLetter : (d : ℕ) (s : System) → IsSystem d s → (y : Factor) (x : ℕ) → IsLetter d x → IsLetter d (factor_output s y x)
factor_output-IsLetter d s h y x l = elim (cases_lt y.name (length s)) [
  | inl b ↦ by y.inverse (All-get_or (IsWreath d (length s)) s y.name (record { perm = []; sections = [] }) b h).permutes
  | inr g ↦ past y.inverse g
]
  where
    by : (b : Bool) → IsPermutation d (wreath_at s y.name).perm → IsLetter d (factor_output s (record { name = y.name; inverse = b }) x)
    by true p = preimage-IsLetter d _ x p l
    by false p = image-IsLetter d _ x p l

    past : (b : Bool) → length s ≤ y.name → IsLetter d (factor_output s (record { name = y.name; inverse = b }) x)
    past true g = rw (get_or_past s y.name (record { perm = []; sections = [] }) g) l
    past false g = rw (get_or_past s y.name (record { perm = []; sections = [] }) g) (rw image_nil l)

pub product_output-IsLetter : (d : ℕ) (s : System) → IsSystem d s → (f : List Factor) (x : ℕ) → IsLetter d x → IsLetter d (product_output s f x)
product_output-IsLetter d s h [] x l = l
product_output-IsLetter d s h (y ∷ f) x l = product_output-IsLetter d s h f _ (factor_output-IsLetter d s h y x l)

pub act_product-IsWord : (d : ℕ) (s : System) → IsSystem d s → (f : List Factor) (w : List ℕ) → IsWord d w → IsWord d (act_product s f w)
act_product-IsWord d s h f [] l = tt
act_product-IsWord d s h f (x ∷ w) l = (product_output-IsLetter d s h f x l.0, act_product-IsWord d s h (product_section s f x) w l.1)

section_past : (d : ℕ) (ss : List (List Factor)) (x : ℕ) → length ss ≡ d → ¬ IsLetter d x → section_at ss x ≡ []
section_past d ss zero e n = refl
section_past d ss (suc k) e n = elim (cases_lt k d) [
  | inl l ↦ absurd (n (omega arith, omega arith))
  | inr g ↦ get_or_past ss k [] (omega arith)
]

factor_past : (d : ℕ) (s : System) → IsSystem d s → (y : Factor) (x : ℕ) → ¬ IsLetter d x → (factor_output s y x ≡ x) × (factor_section s y x ≡ [])
factor_past d s h y x l = elim (cases_lt y.name (length s)) [
  | inl b ↦ by y.inverse (All-get_or (IsWreath d (length s)) s y.name (record { perm = []; sections = [] }) b h)
  | inr g ↦ past y.inverse g
]
  where
    by : (b : Bool) → IsWreath d (length s) (wreath_at s y.name) → (factor_output s (record { name = y.name; inverse = b }) x ≡ x) × (factor_section s (record { name = y.name; inverse = b }) x ≡ [])
    by true p = let e = preimage_past d _ x p.permutes l in (e, rw e (ap inverse_product (section_past d _ x p.arity l)))
    by false p = (image_past d _ x p.permutes l, section_past d _ x p.arity l)

    past : (b : Bool) → length s ≤ y.name → (factor_output s (record { name = y.name; inverse = b }) x ≡ x) × (factor_section s (record { name = y.name; inverse = b }) x ≡ [])
    past true g = rw (get_or_past s y.name (record { perm = []; sections = [] }) g) (refl, ap inverse_product (section_nil x))
    past false g = rw (get_or_past s y.name (record { perm = []; sections = [] }) g) (image_nil x, section_nil x)

product_past : (d : ℕ) (s : System) → IsSystem d s → (f : List Factor) (x : ℕ) → ¬ IsLetter d x → (product_output s f x ≡ x) × (product_section s f x ≡ [])
product_past d s h [] x n = (refl, refl)
product_past d s h (y ∷ f) x n =
    let e = factor_past d s h y x n in
    let r = product_past d s h f x n in
    rw (e.0, e.1) r

pub act_product_past : (d : ℕ) (s : System) → IsSystem d s → (f : List Factor) (x : ℕ) (w : List ℕ) → ¬ IsLetter d x → act_product s f (x ∷ w) ≡ x ∷ w
act_product_past d s h f x w n = let r = product_past d s h f x n in rw (r.0, r.1, act_product-nil s w)

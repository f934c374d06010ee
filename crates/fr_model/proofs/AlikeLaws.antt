-- Acting alike is an equivalence, which products, inverses and sections respect, and which is decided by the first letters and the sections at them.
use Rattle.std.proofs.Common.{ℕ, ◌≡◌, inl, inr, List, [], ◌∷◌, ◌++◌, length, drop, refl, sym, ◌∙◌, ap, append_assoc, length-append}
use Rattle.std.proofs.lemmas.List.{append-nil, drop-drop, nil_from_length}
use Rattle.fr_model.specs.Words.{IsLetter, IsWord}
use Rattle.fr_model.specs.Terms.{Term, Inverse, Product, Section, act, back, IsTerm, IsAlike}
use Rattle.fr_model.proofs.PermutationLaws.{letter_or_not}
use Rattle.fr_model.proofs.TermLaws.{length-act, act-append, back-act, act-back, act_past, act_past_after, IsWord-append}

pub alike_refl : (t : Term) → IsAlike t t
alike_refl t = record { images = λ w. refl }

pub alike_sym : {t u : Term} → IsAlike t u → IsAlike u t
alike_sym h = record { images = λ w. sym (h.images w) }

pub alike_trans : {t u r : Term} → IsAlike t u → IsAlike u r → IsAlike t r
alike_trans h g = record { images = λ w. h.images w ∙ g.images w }

pub alike_product : {t t' u u' : Term} → IsAlike t t' → IsAlike u u' → IsAlike (Product t u) (Product t' u')
alike_product {t} {t'} {u} {u'} h g = record { images = λ w. ap (act u) (h.images w) ∙ g.images (act t' w) }

pub alike_inverse : (d : ℕ) {t u : Term} → IsTerm d t → IsTerm d u → IsAlike t u → IsAlike (Inverse t) (Inverse u)
alike_inverse d {t} {u} s r h = record {
  images = λ w.
      ap (back t) (sym (act-back d u r w)) ∙ ap (back t) (sym (h.images (back u w))) ∙ back-act d t s (back u w);
}

pub alike_section : {t u : Term} → (v : List ℕ) → IsAlike t u → IsAlike (Section t v) (Section u v)
alike_section v h = record { images = λ w. ap (drop (length v)) (h.images (v ++ w)) }

-- a section of a section
pub section_section : (t : Term) (v w : List ℕ) → IsAlike (Section (Section t v) w) (Section t (v ++ w))
section_section t v w = record {
  images = λ x.
      drop-drop (length w) (length v) (act t (v ++ (w ++ x))) ∙ rw (length-append v w, append_assoc v w x);
}

pub section_nil : (t : Term) → IsAlike (Section t []) t
section_nil t = record { images = λ w. refl }

-- the section of a product
pub section_product : (t u : Term) (v : List ℕ) → IsAlike (Section (Product t u) v) (Product (Section t v) (Section u (act t v)))
section_product t u v = record {
  images = λ w.
      ap (λ l. drop (length v) (act u l)) (act-append t v w) ∙ rw (length-act t v);
}

-- the section of an inverse
pub section_inverse : (t : Term) (v : List ℕ) → IsAlike (Section (Inverse t) (act t v)) (Inverse (Section t v))
section_inverse t v = record { images = λ w. rw (length-act t v) }

pub act-nil : (t : Term) → act t [] ≡ []
act-nil t = nil_from_length (act t []) (length-act t [])

-- two terms act alike where they agree at each letter and their sections there are alike
pub alike_from_sections : {t u : Term} → ((x : ℕ) → (act t (x ∷ []) ≡ act u (x ∷ [])) × IsAlike (Section t (x ∷ [])) (Section u (x ∷ []))) → IsAlike t u
alike_from_sections {t} {u} h = record { images = same }
  where
    same : (w : List ℕ) → act t w ≡ act u w
    same [] = act-nil t ∙ sym (act-nil u)
    same (x ∷ w) = act-append t (x ∷ []) w ∙ rw ((h x).0, (h x).1.images w) (sym (act-append u (x ∷ []) w))

section_past : (d : ℕ) (t u : Term) → IsTerm d t → IsTerm d u → (x : ℕ) → ¬ IsLetter d x → (act t (x ∷ []) ≡ act u (x ∷ [])) × IsAlike (Section t (x ∷ [])) (Section u (x ∷ []))
section_past d t u g h x n = (act_past d t g x [] n ∙ sym (act_past d u h x [] n), record { images = λ w. ap (drop 1) (act_past d t g x w n ∙ sym (act_past d u h x w n)) })

pub alike_from_letters : (d : ℕ) {t u : Term} → IsTerm d t → IsTerm d u → ((x : ℕ) → IsLetter d x → (act t (x ∷ []) ≡ act u (x ∷ [])) × IsAlike (Section t (x ∷ [])) (Section u (x ∷ []))) → IsAlike t u
alike_from_letters d {t} {u} g h each = alike_from_sections (λ x. elim (letter_or_not d x) [
  | inl l ↦ each x l
  | inr n ↦ section_past d t u g h x n
])

pub outputs_from_alike : {t u : Term} → IsAlike t u → (x : ℕ) → (act t (x ∷ []) ≡ act u (x ∷ [])) × IsAlike (Section t (x ∷ [])) (Section u (x ∷ []))
outputs_from_alike h x = (h.images (x ∷ []), alike_section (x ∷ []) h)

-- the words of the alphabet tell all
pub alike_from_words : (d : ℕ) {t u : Term} → IsTerm d t → IsTerm d u → ((w : List ℕ) → IsWord d w → act t w ≡ act u w) → IsAlike t u
alike_from_words d {t} {u} g h each = record { images = λ w. all [] w tt }
  where
    all : (v w : List ℕ) → IsWord d v → act t (v ++ w) ≡ act u (v ++ w)
    all v [] l = rw append-nil (each v l)
    all v (x ∷ w) l = elim (letter_or_not d x) [
      | inl k ↦ rw append_assoc at (all (v ++ x ∷ []) w (IsWord-append d v (x ∷ []) l (k, tt)))
      | inr n ↦ act_past_after d t g v x w n ∙ ap (λ p. p ++ x ∷ w) (each v l) ∙ sym (act_past_after d u h v x w n)
    ]

-- Answers that were found for the row of a machine are those of each term that acts alike.
use Rattle.std.proofs.Common.{ℕ, ◌≡◌, inl, inr, Result, Ok, Err, ◌<◌, List, [], ◌∷◌, ◌++◌, length, map, Some, refl, sym, ◌∙◌, ap, append_assoc, arith}
use Rattle.std.specs.Prelude.{codes, OnOk}
use Rattle.fr_model.specs.Terms.{Term, act, IsAlike}
use Rattle.fr_model.specs.Words.{IsLetter, IsWord}
use Rattle.fr_model.specs.Permutations.{image}
use Rattle.fr_model.specs.Separation.{IsShortlexBefore, IsSeparatingWord}
use Rattle.fr_model.proofs.AlikeLaws.{act-nil}
use Rattle.fr_minimal.specs.Searches.{IsLeastDifference}
use Rattle.fr_model.specs.Rays.{IsSameRay, IsRayImage}
use Rattle.fr_model.proofs.GrowthLaws.{IsFinitary-alike, IsLeastTriple-alike, HasDegree-alike, IsChain-alike}
use Rattle.fr_alphabet.specs.Writing.{letter_digit, word_text}
use Rattle.fr_growth.specs.declared.growth_class.Class.{Class}
use Rattle.fr_growth.specs.declared.growth_class.Class.TheVariants.{Finitary, Polynomial, Exponential}
use Rattle.fr_growth.specs.Classes.{IsClass}
use Rattle.fr_ray.specs.Rays.{RayView, IsLongImage}
use Rattle.fr_plain.specs.Answers.{comparison_text, line_of}

pub IsClass-alike : (d : ℕ) (t u : Term) (c : Class) → IsAlike t u → IsClass d t c → IsClass d u c
IsClass-alike d t u (Finitary depth) e h = IsFinitary-alike d t u depth e h
IsClass-alike d t u (Polynomial degree chain) e h = record { degree = HasDegree-alike d t u degree e h.degree; count = h.count; chain = IsChain-alike d t u chain.items e h.chain }
IsClass-alike d t u (Exponential at v w) e h = IsLeastTriple-alike d t u at v w e h

-- the image of a ray in another form, under a term that acts alike
pub IsRayImage-same : (t u : Term) (a b a' b' v w : List ℕ) → IsAlike t u → IsSameRay a b a' b' → IsRayImage t a' b' v w → IsRayImage u a b v w
IsRayImage-same t u a b a' b' v w e same h = λ n. h n ∙ e.images _ ∙ sym (ap (act u) (same n))

pub IsLongImage-same : (d : ℕ) (t u : Term) (r s : RayView) → IsAlike t u → IsSameRay r.before r.period s.before s.period → IsLongImage d t s → IsLongImage d u r
IsLongImage-same d t u r s e same h = record { before = h.before; period = h.period; canonical = h.canonical; image = IsRayImage-same t u r.before r.period s.before s.period h.before h.period e same h.image; long = h.long }

-- the pieces of the text of a difference
pub difference_text-pieces : (t u : Term) (w v x old o1 o2 o3 o4 o5 o6 o7 : List ℕ) → v ≡ act t w → x ≡ act u w
    → o1 ≡ old ++ codes "differ at " → o2 ≡ o1 ++ word_text w → o3 ≡ o2 ++ codes ": " → o4 ≡ o3 ++ word_text v → o5 ≡ o4 ++ codes " / " → o6 ≡ o5 ++ word_text x → o7 ≡ o6 ++ 10 ∷ []
    → o7 ≡ old ++ line_of (comparison_text t u (Some w))
difference_text-pieces t u w v x old o1 o2 o3 o4 o5 o6 o7 e f a b c d g h i =
    let all : o7 ≡ ((((((old ++ codes "differ at ") ++ word_text w) ++ codes ": ") ++ word_text (act t w)) ++ codes " / ") ++ word_text (act u w)) ++ 10 ∷ [] = rw (i, h, g, d, c, b, a, e, f) refl in
    all ∙ simp append_assoc

pub comparison_text-alike : (t t' u u' : Term) (w : List ℕ) → IsAlike t t' → IsAlike u u' → comparison_text t u (Some w) ≡ comparison_text t' u' (Some w)
comparison_text-alike t t' u u' w e f = rw (e.images w, f.images w) refl

-- ---- elements whose permutations differ
-- the least letter with different images is the least word that tells them apart
pub letter_separates : (d : ℕ) (t u : Term) (p q : List ℕ) (x : ℕ) → ((y : ℕ) → IsLetter d y → act t (y ∷ []) ≡ image p y ∷ []) → ((y : ℕ) → IsLetter d y → act u (y ∷ []) ≡ image q y ∷ []) → IsLeastDifference d p q x
    → IsSeparatingWord d t u (x ∷ [])
letter_separates d t u p q x f g h = record {
  valid = (h.letter, tt);
  differs = λ same.
      let heads : image p x ∷ [] ≡ image q x ∷ [] = sym (f x h.letter) ∙ same ∙ g x h.letter in
      let first : image p x ≡ image q x = cc in
      h.differs first;
  least = below;
}
  where
    below : (v : List ℕ) → IsWord d v → IsShortlexBefore v (x ∷ []) → act t v ≡ act u v
    below [] w b = act-nil t ∙ sym (act-nil u)
    below (y ∷ []) w (inl shorter) = absurd (omega (arith, shorter))
    below (y ∷ []) w (inr (same, inl less)) = f y w.0 ∙ ap (λ z. z ∷ []) (h.least y w.0 less) ∙ sym (g y w.0)
    below (y ∷ []) w (inr (same, inr deeper)) = absurd deeper.1
    below (y ∷ z ∷ v) w (inl shorter) = absurd (omega (arith, shorter))
    below (y ∷ z ∷ v) w (inr (same, lex)) = absurd (omega (arith, same))

-- the text of a word that is not empty
pub word_text-some : (w : List ℕ) → 0 < length w → word_text w ≡ map letter_digit w
word_text-some [] some = absurd (omega (arith, some))
word_text-some (x ∷ w) some = refl

-- what an answer says where there is one
pub on_ok : {T E : Type 0} {A B : Type 0} (r : Result T E) → (A → B) → OnOk r A → OnOk r B
on_ok (Ok v) f a = f a
on_ok (Err e) f a = a

-- The least word at which two elements differ: its first letter is the least one with sections that differ so early, and the
-- rest is the least word at which these differ.
use Rattle.std.proofs.Common.{ℕ, suc, ◌≡◌, ◌≤◌, ◌<◌, inl, inr, List, [], ◌∷◌, length, drop, refl, sym, ◌∙◌, ap, subst, arith, Option, Some, None}
use Rattle.std.specs.Prelude.{IfSome, IfNone}
use Rattle.fr_model.specs.Words.{IsLetter, IsWord}
use Rattle.fr_model.specs.Terms.{Term, Section, act}
use Rattle.fr_model.specs.Permutations.{image}
use Rattle.fr_model.specs.Separation.{IsShortlexBefore, IsSeparatingWord}
use Rattle.fr_model.proofs.AlikeLaws.{act-nil}
use Rattle.fr_model.proofs.TermLaws.{act-append}
use Rattle.fr_eval.specs.Differences.{AgreeOn}

-- the images are the same where those of the first letter are, and those of the rest under the sections
pub joined : (t u : Term) (x : ℕ) (w : List ℕ) → act t (x ∷ []) ≡ act u (x ∷ []) → act (Section t (x ∷ [])) w ≡ act (Section u (x ∷ [])) w → act t (x ∷ w) ≡ act u (x ∷ w)
joined t u x w first rest = act-append t (x ∷ []) w ∙ rw (first, rest) (sym (act-append u (x ∷ []) w))

-- where letters and the sections at them agree, words of one letter more agree
pub AgreeOn-behind : (d : ℕ) (t u : Term) (n : ℕ) → AgreeOn d t u 1 → ((x : ℕ) → IsLetter d x → AgreeOn d (Section t (x ∷ [])) (Section u (x ∷ [])) n) → AgreeOn d t u (suc n)
AgreeOn-behind d t u n first behind [] word long = absurd (omega (arith, long))
AgreeOn-behind d t u n first behind (x ∷ w) word long =
    joined t u x w (first (x ∷ []) (word.0, tt) refl) (behind x word.0 w word.1 (omega (arith, long)))

-- where no word of at most as many letters tells the elements apart, the least word that tells the sections at the least
-- such letter apart is, behind that letter, the least that tells the elements apart
pub separates_behind : (d : ℕ) (t u : Term) (x : ℕ) (w : List ℕ) → IsLetter d x → AgreeOn d t u 1 → ((v : List ℕ) → IsWord d v → length v ≤ length w → act t v ≡ act u v)
    → ((y : ℕ) → IsLetter d y → y < x → AgreeOn d (Section t (y ∷ [])) (Section u (y ∷ [])) (length w))
    → IsSeparatingWord d (Section t (x ∷ [])) (Section u (x ∷ [])) w → IsSeparatingWord d t u (x ∷ w)
separates_behind d t u x w letter first shorter before h = record {
  valid = (letter, h.valid);
  differs = λ same. h.differs (ap (drop 1) same);
  least = below;
}
  where
    below : (v : List ℕ) → IsWord d v → IsShortlexBefore v (x ∷ w) → act t v ≡ act u v
    below v word (inl less) = shorter v word (omega (arith, less))
    below [] word (inr (same, lex)) = absurd lex
    below (y ∷ v) word (inr (same, inl less)) =
        joined t u y v (first (y ∷ []) (word.0, tt) refl) (before y word.0 less v word.1 (omega (arith, same)))
    below (y ∷ v) word (inr (same, inr (is, lex))) =
        let rest : act (Section t (x ∷ [])) v ≡ act (Section u (x ∷ [])) v = h.least v word.1 (inr (omega (arith, same), lex)) in
        subst (λ (z : ℕ). act t (z ∷ v) ≡ act u (z ∷ v)) (sym is) (joined t u x v (first (x ∷ []) (letter, tt) refl) rest)

-- no letter tells the elements apart, nor does the empty word
pub at_most_one : (d : ℕ) (t u : Term) → AgreeOn d t u 1 → (v : List ℕ) → IsWord d v → length v ≤ 1 → act t v ≡ act u v
at_most_one d t u first [] word few = act-nil t ∙ sym (act-nil u)
at_most_one d t u first (x ∷ []) word few = first (x ∷ []) word refl
at_most_one d t u first (x ∷ y ∷ v) word few = absurd (omega (arith, few))

-- permutations with the same images
pub AgreeOn-letters : (d : ℕ) (t u : Term) (p q : List ℕ) → ((y : ℕ) → IsLetter d y → act t (y ∷ []) ≡ image p y ∷ []) → ((y : ℕ) → IsLetter d y → act u (y ∷ []) ≡ image q y ∷ [])
    → ((y : ℕ) → IsLetter d y → image p y ≡ image q y) → AgreeOn d t u 1
AgreeOn-letters d t u p q f g same [] word long = absurd (omega (arith, long))
AgreeOn-letters d t u p q f g same (y ∷ []) word long = f y word.0 ∙ ap (λ z. z ∷ []) (same y word.0) ∙ sym (g y word.0)
AgreeOn-letters d t u p q f g same (y ∷ z ∷ v) word long = absurd (omega (arith, long))

-- ---- results that may be none
pub if_some : {A : Type 0} (P Q : A → Type 0) (o : Option A) → ((x : A) → P x → Q x) → IfSome o P → IfSome o Q
if_some P Q None f h = tt
if_some P Q (Some x) f h = f x h

pub if_none : {A P Q : Type 0} (o : Option A) → (P → Q) → IfNone o P → IfNone o Q
if_none None f h = f h
if_none (Some x) f h = tt

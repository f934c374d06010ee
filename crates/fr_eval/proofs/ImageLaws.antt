-- Images of words, letter after letter, and transitions behind calls that only read.
use Rattle.std.proofs.Common.{ℕ, ◌≡◌, ◌<◌, ◌+◌, List, [], ◌∷◌, ◌++◌, length, map, take, get_or, sym, ◌∙◌, ap, subst, append_assoc}
use Rattle.std.proofs.lemmas.List.{take_more, map-append}
use Rattle.fr_model.specs.Words.{IsLetter}
use Rattle.fr_model.specs.Terms.{Term, Section, act}
use Rattle.fr_model.proofs.TermLaws.{act-append}
use Rattle.fr_alphabet.specs.Writing.{letter_digit}
use Rattle.fr_store.specs.Store.{View, Reads}
use Rattle.fr_eval.specs.declared.transitions.Transition.{Transition}
use Rattle.fr_eval.specs.Transitions.{IsTransition}
use Rattle.fr_eval.proofs.ReadLaws.{known_after, stands_after, stands_before}

-- the digit of one letter more
pub digits_more : (t : Term) (w : List ℕ) (i y : ℕ) (old text more : List ℕ) → i < length w → act (Section t (take i w)) (get_or w i 0 ∷ []) ≡ y ∷ []
    → text ≡ old ++ map letter_digit (act t (take i w)) → more ≡ text ++ letter_digit y ∷ [] → more ≡ old ++ map letter_digit (act t (take (i + 1) w))
digits_more t w i y old text more inside next so_far pushed =
    let longer : act t (take (i + 1) w) ≡ act t (take i w) ++ y ∷ [] =
    ap (act t) (take_more w i 0 inside) ∙ act-append t (take i w) (get_or w i 0 ∷ []) ∙ ap (λ l. act t (take i w) ++ l) next in
    let digits : map letter_digit (act t (take (i + 1) w)) ≡ map letter_digit (act t (take i w)) ++ letter_digit y ∷ [] = ap (map letter_digit) longer ∙ map-append letter_digit (act t (take i w)) (y ∷ []) in
    pushed ∙ ap (λ l. l ++ letter_digit y ∷ []) so_far ∙ append_assoc old (map letter_digit (act t (take i w))) (letter_digit y ∷ []) ∙ ap (λ l. old ++ l) (sym digits)

pub IsTransition-after : {S : Type 0} (view : View S) (old new : S) (r : Transition) → Reads view old new → IsTransition view old r → IsTransition view new r
IsTransition-after view old new r reads h = record {
  output = subst (λ (d : ℕ). IsLetter d r.output) (sym reads.continues.alphabet) h.output;
  known = known_after view old new r.to reads h.known;
  image = λ t s. h.image t (stands_before view old new r.from t reads s);
  section = λ t s. stands_after view old new r.to (Section t (r.input ∷ [])) reads (h.section t (stands_before view old new r.from t reads s));
}

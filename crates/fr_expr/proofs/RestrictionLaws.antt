-- Sections at words, letter after letter.
use Rattle.std.proofs.Common.{ℕ, suc, ◌≡◌, ◌<◌, ◌+◌, List, [], ◌∷◌, ◌++◌, length, take, get_or, sym, subst, arith, Option}
use Rattle.std.proofs.Math.Seq.{take-suc}
use Rattle.std.proofs.lemmas.List.Elements.{All-get_or}
use Rattle.fr_model.specs.Words.{IsLetter, IsWord}
use Rattle.fr_model.specs.Terms.{Term, Section, IsTerm}
use Rattle.fr_model.proofs.AlikeLaws.{alike_sym, section_nil, section_section}
use Rattle.fr_model.proofs.TermLaws.{IsWord-append}
use Rattle.fr_alphabet.proofs.WordLaws.{All-from_IsWord}
use Rattle.fr_store.specs.declared.handle.Handle.{Handle}
use Rattle.fr_store.specs.Store.{StandsForTerm}
use Rattle.fr_store.proofs.StoreLaws.{stands_alike}

pub letter_at : (d : ℕ) (w : List ℕ) (i : ℕ) → IsWord d w → i < length w → IsLetter d (get_or w i 0)
letter_at d w i word l = All-get_or (λ x. IsLetter d x) w i 0 l (All-from_IsWord d w word)

word_take : (d : ℕ) (w : List ℕ) (i : ℕ) → IsWord d w → IsWord d (take i w)
word_take d w ℕ.zero word = tt
word_take d [] (ℕ.suc i) word = tt
word_take d (x ∷ w) (ℕ.suc i) word = (word.0, word_take d w i word.1)

pub stands_first : (d : ℕ) (known : ℕ → Option (List ℕ)) (h : Handle) (t : Term) (w : List ℕ) → StandsForTerm d known h t → StandsForTerm d known h (Section t (take 0 w))
stands_first d known h t w s = stands_alike d known h t (Section t []) s (s.term, tt) (alike_sym (section_nil t))

pub stands_next : (d : ℕ) (known : ℕ → Option (List ℕ)) (h : Handle) (t : Term) (w : List ℕ) (i : ℕ) → IsWord d w → i < length w → IsTerm d t
    → StandsForTerm d known h (Section (Section t (take i w)) (get_or w i 0 ∷ [])) → StandsForTerm d known h (Section t (take (i + 1) w))
stands_next d known h t w i word l valid s =
    let longer : take (suc i) w ≡ take i w ++ get_or w i 0 ∷ [] = take-suc w i 0 l in
    let more : StandsForTerm d known h (Section t (take i w ++ get_or w i 0 ∷ [])) =
    stands_alike d known h _ _ s (valid, IsWord-append d (take i w) (get_or w i 0 ∷ []) (word_take d w i word) (letter_at d w i word l, tt)) (section_section t (take i w) (get_or w i 0 ∷ [])) in
    let next : suc i ≡ i + 1 = omega arith in
    subst (λ (n : ℕ). StandsForTerm d known h (Section t (take n w))) next (subst (λ (v : List ℕ). StandsForTerm d known h (Section t v)) (sym longer) more)

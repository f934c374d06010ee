-- Words as lists whose members are letters, and that each is read from the text that is written, and from no other.
use Rattle.std.proofs.Common.{ℕ, zero, suc, ◌≡◌, ◌+◌, ◌-◌, ◌<◌, ◌≤◌, List, [], ◌∷◌, ◌++◌, length, take, drop, get_or, set, map, refl, sym, ◌∙◌, ap, arith, true, None, Ok}
use Rattle.std.specs.Prelude.{All}
use Rattle.std.proofs.lemmas.Bool.{ne_eqb, le-ltb}
use Rattle.std.proofs.lemmas.List.{get_or_default, length-map, map_push, take_more}
use Rattle.std.proofs.lemmas.List.Edits.{map_over_more}
use Rattle.fr_model.specs.Words.{IsLetter, IsWord}
use Rattle.fr_model.proofs.PermutationLaws.{letter_at}
use Rattle.fr_alphabet.specs.Reading.{is_letter_digit, letter_of_digit, bad_place, digits_reading, short_reading, word_reading}
use Rattle.fr_alphabet.proofs.Readings.{is_letter_digit-from}
use Rattle.fr_alphabet.specs.Writing.{letter_digit, word_text}

-- between the recursion and the fact for each member
pub All-from_IsWord : (d : ℕ) (w : List ℕ) → IsWord d w → All (λ x. IsLetter d x) w
All-from_IsWord d w h = λ k e l. letter_at d w k e h l

pub IsWord-from_All : (d : ℕ) (w : List ℕ) → All (λ x. IsLetter d x) w → IsWord d w
IsWord-from_All d [] h = tt
IsWord-from_All d (x ∷ w) h = (h zero x (omega arith), IsWord-from_All d w (λ k e l. h (suc k) e (omega arith)))

-- one letter more is overwritten by its digit
pub digits_more : (xs ys : List ℕ) (i : ℕ) → i < length xs → i < length ys → ys ≡ map letter_digit (take i xs) ++ drop i xs → set ys i (get_or ys i 0 + 48) ≡ map letter_digit (take (i + 1) xs) ++ drop (i + 1) xs
digits_more xs ys i h g e =
    let x = get_or ys i 0 in
    let sum : x + 48 ≡ letter_digit x = omega arith in
    ap (set ys i) sum ∙ map_over_more letter_digit xs ys i x h e (get_or_default ys i 0 x g)

-- a digit's letter has that digit
pub letter_digit-letter_of_digit : (c : ℕ) → 49 ≤ c → letter_digit (c - 48) ≡ c
letter_digit-letter_of_digit c h = omega arith

-- one letter more is read, as the text has it
pub text_more : (letters next text : List ℕ) (i : ℕ) → i < length text → 49 ≤ get_or text i 0 → map letter_digit letters ≡ take i text → next ≡ letters ++ (get_or text i 0 - 48) ∷ [] → map letter_digit next ≡ take (i + 1) text
text_more letters next text i h g e f =
    let c = get_or text i 0 in
    ap (map letter_digit) f ∙ map_push letter_digit letters (c - 48) ∙ ap (λ l. l ++ letter_digit (c - 48) ∷ []) e ∙ ap (λ z. take i text ++ z ∷ []) (letter_digit-letter_of_digit c g) ∙ sym (take_more text i 0 h)

-- digits of letters are read as these letters
digit_reads : (d x : ℕ) → IsLetter d x → is_letter_digit d (letter_digit x) ≡ true
digit_reads d x l = is_letter_digit-from d (letter_digit x) (omega (arith, l.0)) (omega (arith, l.1))

-- no digit of a word is bad
no_bad_place : (d k : ℕ) (w : List ℕ) → IsWord d w → bad_place d k (map letter_digit w) ≡ None
no_bad_place d k [] h = refl
no_bad_place d k (x ∷ w) h = rw (digit_reads d x h.0) (no_bad_place d (suc k) w h.1)

letters_back : (w : List ℕ) → map letter_of_digit (map letter_digit w) ≡ w
letters_back [] = refl
letters_back (x ∷ w) = let e : letter_of_digit (letter_digit x) ≡ x = omega arith in rw (e, letters_back w) refl

digits_reading-word : (d : ℕ) (w : List ℕ) → IsWord d w → digits_reading d (map letter_digit w) ≡ Ok w
digits_reading-word d w h = rw (no_bad_place d 1 w h, digits_reading) (ap Ok (letters_back w))

short_reading-word : (d : ℕ) (w : List ℕ) → IsWord d w → short_reading d (word_text w) ≡ Ok w
short_reading-word d [] h = refl
short_reading-word d (x ∷ []) h = rw (ne_eqb (letter_digit x) 45 (λ e. omega arith)) (digits_reading-word d (x ∷ []) h)
short_reading-word d (x ∷ y ∷ w) h = digits_reading-word d (x ∷ y ∷ w) h

length-word_text : (w : List ℕ) → length w ≤ 4096 → length (word_text w) ≤ 4096
length-word_text [] h = omega arith
length-word_text (x ∷ w) h = omega (arith, length-map (x ∷ w) letter_digit)

-- the text of a word reads as the word
pub word_reading-word_text : (d : ℕ) (w : List ℕ) → length w ≤ 4096 → IsWord d w → word_reading d (word_text w) ≡ Ok w
word_reading-word_text d w n h = rw (le-ltb 4096 (length (word_text w)) (length-word_text w n)) (short_reading-word d w h)

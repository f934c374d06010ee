-- How a text reads as a word, in this project's own notation: a digit for each letter, a lone minus sign for no letters.
use Rattle.std.specs.Prelude.{ℕ, suc, ◌+◌, ◌-◌, ◌==◌, Bool, nat_lt, nat_le, ◌&&◌, if◌then◌else◌, List, [], ◌∷◌, length, map, Option, Some, None, Result, Ok, Err}
use Rattle.fr_alphabet.specs.declared.word.WordFault.{WordFault}
use Rattle.fr_alphabet.specs.declared.word.WordFault.TheVariants.{WordTooLong, NotALetter}

-- whether a byte is the digit of one of d letters, from 49 for the letter 1 on
abbrev pub is_letter_digit : ℕ → ℕ → Bool
is_letter_digit d c = nat_le 49 c && nat_le c (48 + d)

-- the letter of a digit
abbrev pub letter_of_digit : ℕ → ℕ
letter_of_digit c = c - 48

-- the place, counted from k, of the first byte that is no letter
abbrev pub bad_place : ℕ → ℕ → List ℕ → Option ℕ
bad_place d k [] = None
bad_place d k (c ∷ cs) = if is_letter_digit d c then bad_place d (suc k) cs else Some k

-- a text of digits: its letters, or its first place that has none
abbrev pub digits_reading : ℕ → List ℕ → Result (List ℕ) WordFault
digits_reading d text = elim (bad_place d 1 text) [ Some k ↦ Err (NotALetter k) | None ↦ Ok (map letter_of_digit text) ]

-- a text that is not too long; a lone minus sign (45) is the empty word
abbrev pub short_reading : ℕ → List ℕ → Result (List ℕ) WordFault
short_reading d [] = Err (NotALetter 1)
short_reading d (c ∷ []) = if c == 45 then Ok [] else digits_reading d (c ∷ [])
short_reading d (c ∷ e ∷ cs) = digits_reading d (c ∷ e ∷ cs)

-- the word that a text is, or why it is none
abbrev pub word_reading : ℕ → List ℕ → Result (List ℕ) WordFault
word_reading d text = if nat_lt 4096 (length text) then Err WordTooLong else short_reading d text

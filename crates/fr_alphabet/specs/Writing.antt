-- How a word is written: this project's own notation, a digit for each letter and `-` for the empty word.
use Rattle.std.specs.Prelude.{ℕ, ◌+◌, List, [], ◌∷◌, map}

-- the digit of a letter
abbrev pub letter_digit : ℕ → ℕ
letter_digit x = 48 + x

-- the digits of the letters; a minus sign (45) where there are none
abbrev pub word_text : List ℕ → List ℕ
word_text [] = 45 ∷ []
word_text (x ∷ w) = map letter_digit (x ∷ w)

-- Computed readings of texts as words.
use Rattle.std.specs.Prelude.{◌≡◌, [], ◌∷◌, replicate, Ok, Err}
use Rattle.fr_alphabet.specs.Reading.{word_reading}
use Rattle.fr_alphabet.specs.declared.word.WordFault.TheVariants.{WordTooLong, NotALetter}

-- digits are letters of the alphabet, a dash alone is the empty word, and the first fault is told with its place from 1
pub record TextsReadAsWords : Type 0 where
  pub digits : word_reading 2 (49 ∷ 50 ∷ 49 ∷ []) ≡ Ok (1 ∷ 2 ∷ 1 ∷ [])
  pub letter_outside : word_reading 2 (49 ∷ 51 ∷ []) ≡ Err (NotALetter 2)
  pub empty : word_reading 2 [] ≡ Err (NotALetter 1)
  pub dash : word_reading 2 (45 ∷ []) ≡ Ok []
  pub dash_and_more : word_reading 2 (45 ∷ 49 ∷ []) ≡ Err (NotALetter 1)
  pub too_long : word_reading 2 (replicate 4097 49) ≡ Err WordTooLong
  pub eight : word_reading 8 (56 ∷ []) ≡ Ok (8 ∷ [])
  pub nine : word_reading 8 (57 ∷ []) ≡ Err (NotALetter 1)
  pub zero : word_reading 3 (49 ∷ 48 ∷ []) ≡ Err (NotALetter 2)

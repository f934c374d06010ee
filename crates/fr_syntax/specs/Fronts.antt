-- The first of some tokens, and whether it is the only one.
use Rattle.std.specs.Prelude.{◌≡◌, ◌==◌, List, [], ◌∷◌, length, Option, Some, None}
use Rattle.fr_syntax.specs.declared.lexer.LineFront.{LineFront}
use Rattle.fr_syntax.specs.Tokens.{Lexeme, seen}

-- None where there are no tokens
abbrev pub IsFront : List Lexeme → Option LineFront → Type 0
IsFront tokens None = tokens ≡ []
IsFront tokens (Some front) = (rest : List Lexeme) × (tokens ≡ seen front.token ∷ rest) × (front.is_only ≡ (length rest == 0))

-- The tokens of a line, as contracts see them.
use Rattle.std.specs.Prelude.{ℕ, List}
use Rattle.fr_syntax.specs.declared.token.Mark.{Mark}
use Rattle.fr_syntax.specs.declared.token.Token.{Token}
use Rattle.fr_syntax.specs.declared.token.Token.TheVariants as t

-- a name, a number or another byte
pub data Lexeme : Type 0 where
  Name : List ℕ → Lexeme
  Number : List ℕ → Lexeme
  Sign : Mark → Lexeme

-- a token without where its text lies
abbrev pub seen : Token → Lexeme
seen (t.Name text) = Name text.now
seen (t.Number text) = Number text.now
seen (t.Mark mark) = Sign mark

-- One step of the reader of expressions, over the values that it keeps.
use Rattle.std.specs.Prelude.{ℕ, Bool, true, false, if◌then◌else◌, ◌==◌, ◌&&◌, length, slice_index, List, [], ◌∷◌, ◌++◌, Option, Some, None}
use Rattle.fr_syntax.specs.declared.token.Mark.TheVariants as m
use Rattle.fr_syntax.specs.declared.notes.Notes.{Notes}
use Rattle.fr_syntax.specs.declared.tree.Expr.{Expr}
use Rattle.fr_syntax.specs.declared.tree.Factor.{Factor}
use Rattle.fr_syntax.specs.declared.tree.Atom.{Atom}
use Rattle.fr_syntax.specs.declared.tree.Atom.TheVariants as a
use Rattle.fr_syntax.specs.declared.tree.Op.{Op}
use Rattle.fr_syntax.specs.declared.tree.Op.TheVariants as o
use Rattle.fr_syntax.specs.declared.unfinished.Open.{Open}
use Rattle.fr_syntax.specs.declared.unfinished.Open.TheVariants as open_
use Rattle.fr_syntax.specs.declared.unfinished.Frame.{Frame}
use Rattle.fr_syntax.specs.declared.unfinished.Place.{Place}
use Rattle.fr_syntax.specs.declared.unfinished.Place.TheVariants as p
use Rattle.fr_syntax.specs.declared.reader.Reader.{Reader}
use Rattle.fr_syntax.specs.declared.reader.ReadExpr.{ReadExpr}
use Rattle.fr_syntax.specs.declared.reader.Step.{Step}
use Rattle.fr_syntax.specs.declared.reader.Step.TheVariants as s
use Rattle.fr_syntax.specs.Tokens.{Lexeme, Name, Number, Sign}
use Rattle.fr_syntax.specs.Values.{with_op, plain, product, capped_value, letters_of, note_power, note_digits}

-- what a token does to an expression: it belongs to it, it stands after it, or neither
pub data Stepped : Type 0 where
  Next : Reader → Stepped
  Ends : Expr → Notes → Stepped
  Stuck : Stepped

-- what a step of the program did, which left this reader
abbrev pub stepped : Step → Reader → Stepped
stepped s.Next reader = Next reader
stepped (s.Ends expr) reader = Ends expr reader.notes
stepped s.Stuck reader = Stuck

-- the expression goes on
abbrev pub next : List Frame → List Factor → Place → Notes → Stepped
next frames factors place notes = Next (record { frames = frames; factors = factors; place = place; notes = notes })

-- the text of the number 1
unfoldable pub is_one : List ℕ → Bool
is_one text = length text == 1 && slice_index text 0 == 49

-- one operation more on the last factor
abbrev pub add_op : List Factor → Op → List Factor
add_op [] op = []
add_op (factor ∷ []) op = with_op factor op ∷ []
add_op (factor ∷ other ∷ more) op = factor ∷ add_op (other ∷ more) op

-- the factors with an atom in its place
abbrev pub fill : List Factor → Place → Atom → List Factor
fill factors p.Power atom = add_op factors (o.Conj atom)
fill factors _ atom = factors ++ plain atom ∷ []

-- a bracket is opened
abbrev pub opened : List Frame → Open → List Factor → Place → Notes → Stepped
opened frames open_ factors place notes = next (frames ++ record { «open» = open_; factors = factors; place = place } ∷ []) [] p.Atom notes

-- a number where an atom may stand
abbrev pub number_step : List Frame → List Factor → Place → Notes → List ℕ → Stepped
number_step frames factors p.Power notes text = next frames (add_op factors (o.Power false (capped_value text))) p.After (note_power text notes)
number_step frames factors _ notes text = if is_one text then next frames (factors ++ plain a.One ∷ []) p.After notes else Stuck

-- the `-` of a power
abbrev pub minus_step : List Frame → List Factor → Place → Notes → Stepped
minus_step frames factors p.Power notes = next frames factors p.Negative notes
minus_step frames factors _ notes = Stuck

-- a token where an atom may stand
abbrev pub atom_step : List Frame → List Factor → Place → Notes → Lexeme → Stepped
atom_step frames factors place notes (Name name) = next frames (fill factors place (a.Named name)) p.After notes
atom_step frames factors place notes (Number text) = number_step frames factors place notes text
atom_step frames factors place notes (Sign m.LeftParen) = opened frames open_.Paren factors place notes
atom_step frames factors place notes (Sign m.LeftBracket) = opened frames open_.First factors place notes
atom_step frames factors place notes (Sign m.Minus) = minus_step frames factors place notes
atom_step frames factors place notes _ = Stuck

-- the number of a negative power
abbrev pub negative_step : List Frame → List Factor → Notes → Lexeme → Stepped
negative_step frames factors notes (Number text) = next frames (add_op factors (o.Power true (capped_value text))) p.After (note_power text notes)
negative_step frames factors notes _ = Stuck

-- the word of a section
abbrev pub word_step : ℕ → List Frame → List Factor → Notes → Lexeme → Stepped
word_step d frames factors notes (Number text) = next frames (add_op factors (o.At (letters_of d text))) p.After (note_digits d text notes)
word_step d frames factors notes (Sign m.Minus) = next frames (add_op factors (o.At [])) p.After notes
word_step d frames factors notes _ = Stuck

-- a token that stands after the innermost expression, whose bracket is open
abbrev pub close_step : List Frame → Open → List Factor → Place → Expr → Notes → Lexeme → Stepped
close_step frames open_.Paren factors place expr notes (Sign m.RightParen) = next frames (fill factors place (a.Paren expr)) p.After notes
close_step frames open_.First factors place expr notes (Sign m.Comma) = opened frames (open_.Second expr) factors place notes
close_step frames (open_.Second left) factors place expr notes (Sign m.RightBracket) = next frames (fill factors place (a.Comm left expr)) p.After notes
close_step frames _ factors place expr notes _ = Stuck

-- the open brackets and the innermost one; None where there is none
abbrev pub end_step : List Frame → List Frame → Expr → Notes → Lexeme → Stepped
end_step frames [] expr notes token = Ends expr notes
end_step frames (frame ∷ []) expr notes token = close_step frames frame.«open» frame.factors frame.place expr notes token
end_step frames (frame ∷ other ∷ more) expr notes token = end_step (frames ++ frame ∷ []) (other ∷ more) expr notes token

-- a token after an atom or an operation
abbrev pub after_step : List Frame → List Factor → Notes → Lexeme → Stepped
after_step frames factors notes (Sign m.Star) = next frames factors p.Atom notes
after_step frames factors notes (Sign m.Caret) = next frames factors p.Power notes
after_step frames factors notes (Sign m.At) = next frames factors p.Word notes
after_step frames factors notes token = end_step [] frames (product factors) notes token

-- a token in its place
abbrev pub place_step : ℕ → List Frame → List Factor → Place → Notes → Lexeme → Stepped
place_step d frames factors p.Atom notes token = atom_step frames factors p.Atom notes token
place_step d frames factors p.Power notes token = atom_step frames factors p.Power notes token
place_step d frames factors p.Negative notes token = negative_step frames factors notes token
place_step d frames factors p.Word notes token = word_step d frames factors notes token
place_step d frames factors p.After notes token = after_step frames factors notes token

-- one token
abbrev pub step : ℕ → Reader → Lexeme → Stepped
step d reader token = place_step d reader.frames reader.factors reader.place reader.notes token

-- before the first token
abbrev pub begun : Notes → Reader
begun notes = record { frames = []; factors = []; place = p.Atom; notes = notes }

-- a whole expression, where no bracket is open
abbrev pub finish_place : List Frame → List Factor → Place → Notes → Option ReadExpr
finish_place [] factors p.After notes = Some (record { expr = product factors; notes = notes })
finish_place _ factors _ notes = None

-- the expression, where it is whole
abbrev pub finish : Reader → Option ReadExpr
finish reader = finish_place reader.frames reader.factors reader.place reader.notes

-- What was read of an expression, as trees: the reader's steps over trees of the grammar.
use Rattle.std.specs.Prelude.{ℕ, if◌then◌else◌, List, [], ◌∷◌, Option, Some, None}
use Rattle.fr_syntax.specs.declared.token.Mark.TheVariants as m
use Rattle.fr_syntax.specs.Tokens.{Lexeme, Name, Number, Sign}
use Rattle.fr_syntax.specs.Grammar.{Empty, Digits, ExprTree, Only, Times, FactorTree, Plain, With, Power, Negative, Conjugate, Section, One, Simple, Atom2Tree, Named, Paren, Comm, spell_expr, spell_factor}
use Rattle.fr_syntax.specs.Steps.{is_one}

pub data TOpen : Type 0 where
  InParen : TOpen
  InFirst : TOpen
  InSecond : ExprTree → TOpen

-- the place of an atom, with the expression before the last `*`
pub data THole : Type 0 where
  Start : Option ExprTree → THole
  Conj : Option ExprTree → FactorTree → THole

pub record TFrame : Type 0 where
  pub bracket : TOpen
  pub hole : THole

pub data TPlace : Type 0 where
  AtAtom : THole → TPlace
  AtNegative : Option ExprTree → FactorTree → TPlace
  AtWord : Option ExprTree → FactorTree → TPlace
  AtEnd : Option ExprTree → FactorTree → TPlace

-- the open brackets, the innermost first
pub record TReader : Type 0 where
  pub frames : List TFrame
  pub place : TPlace

pub data TStep : Type 0 where
  Next : TReader → TStep
  Ends : ExprTree → TStep
  Stuck : TStep

abbrev pub join : Option ExprTree → FactorTree → ExprTree
join None factor = Only factor
join (Some expr) factor = Times expr factor

abbrev pub go : List TFrame → TPlace → TStep
go frames place = Next (record { frames = frames; place = place })

abbrev pub fill_tree : THole → Atom2Tree → TPlace
fill_tree (Start before) atom = AtEnd before (Plain (Simple atom))
fill_tree (Conj before factor) atom = AtEnd before (With factor (Conjugate atom))

abbrev pub open_tree : List TFrame → TOpen → THole → TStep
open_tree frames bracket hole = go (record { bracket = bracket; hole = hole } ∷ frames) (AtAtom (Start None))

abbrev pub number_tree : List TFrame → THole → List ℕ → TStep
number_tree frames (Start before) text = if is_one text then go frames (AtEnd before (Plain One)) else Stuck
number_tree frames (Conj before factor) text = go frames (AtEnd before (With factor (Power text)))

abbrev pub minus_tree : List TFrame → THole → TStep
minus_tree frames (Start before) = Stuck
minus_tree frames (Conj before factor) = go frames (AtNegative before factor)

abbrev pub atom_tree : List TFrame → THole → Lexeme → TStep
atom_tree frames hole (Name name) = go frames (fill_tree hole (Named name))
atom_tree frames hole (Number text) = number_tree frames hole text
atom_tree frames hole (Sign m.LeftParen) = open_tree frames InParen hole
atom_tree frames hole (Sign m.LeftBracket) = open_tree frames InFirst hole
atom_tree frames hole (Sign m.Minus) = minus_tree frames hole
atom_tree frames hole _ = Stuck

abbrev pub negative_tree : List TFrame → Option ExprTree → FactorTree → Lexeme → TStep
negative_tree frames before factor (Number text) = go frames (AtEnd before (With factor (Negative text)))
negative_tree frames before factor _ = Stuck

abbrev pub word_tree : List TFrame → Option ExprTree → FactorTree → Lexeme → TStep
word_tree frames before factor (Number text) = go frames (AtEnd before (With factor (Section (Digits text))))
word_tree frames before factor (Sign m.Minus) = go frames (AtEnd before (With factor (Section Empty)))
word_tree frames before factor _ = Stuck

abbrev pub close_tree : List TFrame → TOpen → THole → ExprTree → Lexeme → TStep
close_tree frames InParen hole expr (Sign m.RightParen) = go frames (fill_tree hole (Paren expr))
close_tree frames InFirst hole expr (Sign m.Comma) = open_tree frames (InSecond expr) hole
close_tree frames (InSecond left) hole expr (Sign m.RightBracket) = go frames (fill_tree hole (Comm left expr))
close_tree frames _ hole expr _ = Stuck

abbrev pub end_tree : List TFrame → ExprTree → Lexeme → TStep
end_tree [] expr token = Ends expr
end_tree (frame ∷ frames) expr token = close_tree frames frame.bracket frame.hole expr token

abbrev pub after_tree : List TFrame → Option ExprTree → FactorTree → Lexeme → TStep
after_tree frames before factor (Sign m.Star) = go frames (AtAtom (Start (Some (join before factor))))
after_tree frames before factor (Sign m.Caret) = go frames (AtAtom (Conj before factor))
after_tree frames before factor (Sign m.At) = go frames (AtWord before factor)
after_tree frames before factor token = end_tree frames (join before factor) token

abbrev pub place_tree : List TFrame → TPlace → Lexeme → TStep
place_tree frames (AtAtom hole) token = atom_tree frames hole token
place_tree frames (AtNegative before factor) token = negative_tree frames before factor token
place_tree frames (AtWord before factor) token = word_tree frames before factor token
place_tree frames (AtEnd before factor) token = after_tree frames before factor token

abbrev pub step_tree : TReader → Lexeme → TStep
step_tree reader token = place_tree reader.frames reader.place token

abbrev pub begun_tree : TReader
begun_tree = record { frames = []; place = AtAtom (Start None) }

-- the tokens that were read, and then the rest
abbrev pub spell_before : Option ExprTree → List Lexeme → List Lexeme
spell_before None rest = rest
spell_before (Some expr) rest = spell_expr expr (Sign m.Star ∷ rest)

abbrev pub spell_hole : THole → List Lexeme → List Lexeme
spell_hole (Start before) rest = spell_before before rest
spell_hole (Conj before factor) rest = spell_before before (spell_factor factor (Sign m.Caret ∷ rest))

abbrev pub spell_open : TOpen → List Lexeme → List Lexeme
spell_open InParen rest = Sign m.LeftParen ∷ rest
spell_open InFirst rest = Sign m.LeftBracket ∷ rest
spell_open (InSecond left) rest = Sign m.LeftBracket ∷ spell_expr left (Sign m.Comma ∷ rest)

abbrev pub spell_frames : List TFrame → List Lexeme → List Lexeme
spell_frames [] rest = rest
spell_frames (frame ∷ frames) rest = spell_frames frames (spell_hole frame.hole (spell_open frame.bracket rest))

abbrev pub spell_place : TPlace → List Lexeme → List Lexeme
spell_place (AtAtom hole) rest = spell_hole hole rest
spell_place (AtNegative before factor) rest = spell_before before (spell_factor factor (Sign m.Caret ∷ Sign m.Minus ∷ rest))
spell_place (AtWord before factor) rest = spell_before before (spell_factor factor (Sign m.At ∷ rest))
spell_place (AtEnd before factor) rest = spell_before before (spell_factor factor rest)

abbrev pub spell_reader : TReader → List Lexeme → List Lexeme
spell_reader reader rest = spell_frames reader.frames (spell_place reader.place rest)

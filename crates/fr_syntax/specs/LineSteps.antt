-- One step of the reader of lines outside a block, over the values that it keeps.
use Rattle.std.specs.Prelude.{ℕ, suc, Bool, true, false, List, [], ◌∷◌, ◌++◌, Option, Some, None}
use Rattle.fr_syntax.specs.declared.token.Mark.TheVariants as m
use Rattle.fr_syntax.specs.declared.keyword.Keyword.{Keyword}
use Rattle.fr_syntax.specs.declared.keyword.Keyword.TheVariants as k
use Rattle.fr_syntax.specs.declared.notes.Notes.{Notes}
use Rattle.fr_syntax.specs.declared.tree.Expr.{Expr}
use Rattle.fr_syntax.specs.declared.statement.Statement.{Statement}
use Rattle.fr_syntax.specs.declared.statement.Statement.TheVariants as st
use Rattle.fr_syntax.specs.declared.reader.ReadExpr.{ReadExpr}
use Rattle.fr_syntax.specs.declared.reader.Reader.{Reader}
use Rattle.fr_syntax.specs.declared.follow.After.{After}
use Rattle.fr_syntax.specs.declared.follow.After.TheVariants as af
use Rattle.fr_syntax.specs.declared.line.Line.TheVariants as l
use Rattle.fr_syntax.specs.declared.line.Goal.{Goal}
use Rattle.fr_syntax.specs.declared.line.Goal.TheVariants as g
use Rattle.fr_syntax.specs.declared.line.Spot.{Spot}
use Rattle.fr_syntax.specs.declared.line.Spot.TheVariants as sp
use Rattle.fr_syntax.specs.declared.line.ReadLine.{ReadLine}
use Rattle.fr_syntax.specs.declared.line.LineReading.{LineReading}
use Rattle.fr_syntax.specs.declared.line.LineReading.TheVariants as r
use Rattle.fr_syntax.specs.Tokens.{Lexeme, Name, Number, Sign}
use Rattle.fr_syntax.specs.Keywords.{keyword_of}
use Rattle.fr_syntax.specs.Values.{no_notes, capped_value, letters_of, note_power, note_digits}
use Rattle.fr_syntax.specs.Steps as e

-- the line is whole, and says this
abbrev pub says : Statement → Notes → Option Spot
says statement notes = Some (sp.Whole (l.Says statement) notes)

-- an expression comes next
abbrev pub begin : Goal → Option Spot
begin goal = Some (sp.Expr goal (e.begun no_notes))

-- what comes after a first word
abbrev pub keyword_step : Option Keyword → Option Spot
keyword_step None = None
keyword_step (Some k.Alphabet) = Some sp.AlphabetNumber
keyword_step (Some k.Group) = Some (sp.Whole l.Group no_notes)
keyword_step (Some k.Let) = Some sp.LetName
keyword_step (Some k.Show) = begin g.Show
keyword_step (Some k.States) = begin g.States
keyword_step (Some k.Wreath) = begin g.Wreath
keyword_step (Some k.Class) = begin g.ClassOf
keyword_step (Some k.Eq) = begin g.First
keyword_step (Some k.Act) = begin g.Act
keyword_step (Some k.Ray) = begin g.Ray
keyword_step (Some k.Order) = begin g.Order
keyword_step (Some k.Nucleus) = begin (g.Nucleus [])

-- the first token of an expression that begins at once
abbrev pub on_fresh : Goal → e.Stepped → Option Spot
on_fresh goal (e.Next reader) = Some (sp.Expr goal reader)
on_fresh goal (e.Ends expr notes) = None
on_fresh goal e.Stuck = None

-- the word of `act`
abbrev pub act_step : ℕ → Expr → Notes → Lexeme → Option Spot
act_step d expr notes (Number text) = says (st.Act expr (letters_of d text)) (note_digits d text notes)
act_step d expr notes (Sign m.Minus) = says (st.Act expr []) notes
act_step d expr notes _ = None

-- the beginning of a ray, or the `(` of its period
abbrev pub ray_step : ℕ → Expr → Notes → Lexeme → Option Spot
ray_step d expr notes (Number text) = Some (sp.RayOpen expr (letters_of d text) (note_digits d text notes))
ray_step d expr notes (Sign m.LeftParen) = Some (sp.RayPeriod expr [] notes)
ray_step d expr notes _ = None

-- the bound of `order`
abbrev pub order_step : Expr → Notes → Lexeme → Option Spot
order_step expr notes (Number text) = says (st.Order expr (capped_value text)) (note_power text notes)
order_step expr notes _ = None

-- the comma in a list of expressions
abbrev pub nucleus_step : List Expr → Expr → Notes → Lexeme → Option Spot
nucleus_step exprs expr notes (Sign m.Comma) = Some (sp.Expr (g.Nucleus (exprs ++ expr ∷ [])) (e.begun notes))
nucleus_step exprs expr notes _ = None

-- a token after an expression
abbrev pub follow : ℕ → Goal → Expr → Notes → Lexeme → Option Spot
follow d g.First expr notes token = on_fresh (g.Second expr) (e.step d (e.begun notes) token)
follow d g.Act expr notes token = act_step d expr notes token
follow d g.Ray expr notes token = ray_step d expr notes token
follow d g.Order expr notes token = order_step expr notes token
follow d (g.Nucleus exprs) expr notes token = nucleus_step exprs expr notes token
follow d _ expr notes token = None

-- what a token after an expression did in the program, which left this goal and this reader
abbrev pub followed : After → Goal → Reader → Option Spot
followed af.Expr goal reader = Some (sp.Expr goal reader)
followed (af.Moves spot) goal reader = Some spot
followed af.Stuck goal reader = None

-- what a token does that the reader of the expression took, or that stands behind it
abbrev pub on_step : ℕ → Goal → Lexeme → e.Stepped → Option Spot
on_step d goal token (e.Next reader) = Some (sp.Expr goal reader)
on_step d goal token (e.Ends expr notes) = follow d goal expr notes token
on_step d goal token e.Stuck = None

-- the period of a ray
abbrev pub period_step : ℕ → Expr → List ℕ → Notes → Lexeme → Option Spot
period_step d expr before notes (Number text) = Some (sp.RayClose expr before (letters_of d text) (note_digits d text notes))
period_step d expr before notes _ = None

-- the `)` of a ray
abbrev pub close_ray : Expr → List ℕ → List ℕ → Notes → Lexeme → Option Spot
close_ray expr before period notes (Sign m.RightParen) = says (st.RayOf expr (record { before = before; period = period })) notes
close_ray expr before period notes _ = None

-- a token behind the expression that was read here
abbrev pub follow_expr : ℕ → Spot → Expr → Lexeme → Option Spot
follow_expr d (sp.Expr goal reader) expr token = follow d goal expr reader.notes token
follow_expr d _ expr token = None

-- one token outside an expression
abbrev pub take_outside : ℕ → Spot → Lexeme → Option Spot
take_outside d sp.Keyword (Name text) = keyword_step (keyword_of text)
take_outside d sp.AlphabetNumber (Number text) = Some (sp.Whole (l.Alphabet (capped_value text)) no_notes)
take_outside d sp.LetName (Name name) = Some (sp.LetEquals name)
take_outside d (sp.LetEquals name) (Sign m.Equals) = begin (g.Let name)
take_outside d (sp.RayOpen expr before notes) (Sign m.LeftParen) = Some (sp.RayPeriod expr before notes)
take_outside d (sp.RayPeriod expr before notes) token = period_step d expr before notes token
take_outside d (sp.RayClose expr before period notes) token = close_ray expr before period notes token
take_outside d _ token = None

-- one token
abbrev pub take : ℕ → Spot → Lexeme → Option Spot
take d (sp.Expr goal reader) token = on_step d goal token (e.step d reader token)
take d spot token = take_outside d spot token

-- where the program went on, if it did
abbrev pub moved : Bool → Spot → Option Spot
moved true spot = Some spot
moved false spot = None

-- the line, where it is whole
abbrev pub told : Statement → Notes → Option ReadLine
told statement notes = Some (record { line = l.Says statement; notes = notes })

-- the line that ends with an expression
abbrev pub ended : Goal → ReadExpr → Option ReadLine
ended (g.Let name) found = told (st.Let name found.expr) found.notes
ended g.Show found = told (st.Show found.expr) found.notes
ended g.States found = told (st.States found.expr) found.notes
ended g.Wreath found = told (st.Wreath found.expr) found.notes
ended g.ClassOf found = told (st.ClassOf found.expr) found.notes
ended (g.Second left) found = told (st.Eq left found.expr) found.notes
ended (g.Nucleus exprs) found = told (st.NucleusOf (exprs ++ found.expr ∷ [])) found.notes
ended _ found = None

-- the same, where the expression is whole
abbrev pub ended_by : Goal → Option ReadExpr → Option ReadLine
ended_by goal None = None
ended_by goal (Some found) = ended goal found

-- the line, where it is whole
abbrev pub finish : Spot → Option ReadLine
finish (sp.Whole line notes) = Some (record { line = line; notes = notes })
finish (sp.Expr goal reader) = ended_by goal (e.finish reader)
finish _ = None

-- the line, or the number of tokens before the one where it ends
abbrev pub at_end : ℕ → Option ReadLine → LineReading
at_end count (Some read) = r.Whole read
at_end count None = r.Syntax count

-- goes on where the step was possible
abbrev pub read_on : (Spot → LineReading) → ℕ → Option Spot → LineReading
read_on more count (Some spot) = more spot
read_on more count None = r.Syntax count

-- the tokens that are left, where so many were read
abbrev pub read_from : ℕ → ℕ → Spot → List Lexeme → LineReading
read_from d count spot [] = at_end count (finish spot)
read_from d count spot (token ∷ tokens) = read_on (λ next. read_from d (suc count) next tokens) count (take d spot token)

-- all tokens
unfoldable pub reading : ℕ → List Lexeme → LineReading
reading d tokens = read_from d 0 sp.Keyword tokens

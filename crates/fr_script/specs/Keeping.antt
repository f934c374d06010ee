-- What a line outside a block says, as a function of the line, and what its first word tells of it.
use Rattle.std.specs.Prelude.{ℕ, ◌≡◌, Bool, true, false, nat_lt, if◌then◌else◌, List, [], ◌∷◌, length, Option, Some, None}
use Rattle.fr_syntax.specs.declared.keyword.Keyword.{Keyword}
use Rattle.fr_syntax.specs.declared.keyword.Keyword.TheVariants as k
use Rattle.fr_syntax.specs.declared.statement.Statement.{Statement}
use Rattle.fr_syntax.specs.declared.statement.Statement.TheVariants as st
use Rattle.fr_syntax.specs.declared.line.LineReading.{LineReading}
use Rattle.fr_syntax.specs.declared.line.LineReading.TheVariants as l
use Rattle.fr_syntax.specs.Tokens.{Lexeme, Name}
use Rattle.fr_syntax.specs.Keywords.{keyword_of}
use Rattle.fr_syntax.specs.LineSteps.{reading}
use Rattle.fr_syntax.specs.Lines.{Located, lexemes, code_of, tokens_of, bad_place, place_of, passes_nesting}
use Rattle.fr_script.specs.declared.fault.LineFault.TheVariants as fault
use Rattle.fr_script.specs.declared.outcome.LineOutcome.{LineOutcome}
use Rattle.fr_script.specs.declared.outcome.LineOutcome.TheVariants as o
use Rattle.fr_script.specs.declared.item.Body.{Body}
use Rattle.fr_script.specs.declared.item.Body.TheVariants as b
use Rattle.fr_script.specs.declared.kept.Form.{Form}
use Rattle.fr_script.specs.declared.kept.Form.TheVariants as f
use Rattle.fr_script.specs.declared.kept.Telling.{Telling}
use Rattle.fr_script.specs.declared.kept.Telling.TheVariants as t
use Rattle.fr_script.specs.Reading.{begins_statement, faulty, checked, ReadsLine}

-- What the line n outside a block says, or its fault. It is asked for lines that are no `group` line, so the first case
-- does not come.
abbrev pub body_of : ℕ → LineOutcome → Body
body_of n o.Group = b.Says (st.Group [])
body_of n (o.Says statement) = b.Says statement
body_of n (o.Faulty kind) = b.Faulty (record { line = n; kind = kind })

-- this is what the line n outside a block says, or its fault
abbrev pub IsBodyOf : ℕ → Bool → ℕ → List ℕ → Body → Type 0
IsBodyOf d is_first n line body = (outcome : LineOutcome) × ReadsLine d is_first line outcome × (body ≡ body_of n outcome)

-- The one outcome of a line outside a block. What a reading of its tokens says:
abbrev pub tokens_outcome : Bool → List Located → LineReading → LineOutcome
tokens_outcome is_first tokens (l.Whole read) = checked is_first read
tokens_outcome is_first tokens (l.Syntax k) = faulty (fault.Syntax (place_of tokens k))

-- what its tokens say
abbrev pub text_outcome : ℕ → Bool → List Located → LineOutcome
text_outcome d is_first tokens =
    if begins_statement (lexemes tokens)
    then (if passes_nesting 0 0 (lexemes tokens) then faulty fault.NestingPassed else tokens_outcome is_first tokens (reading d (lexemes tokens)))
    else faulty fault.UnknownStatement

-- a bad byte comes first
abbrev pub unless_bad : Option ℕ → LineOutcome → LineOutcome
unless_bad (Some place) outcome = faulty (fault.BadByte place)
unless_bad None outcome = outcome

-- what the line says, or its fault
unfoldable pub outcome_of : ℕ → Bool → List ℕ → LineOutcome
outcome_of d is_first line =
    unless_bad (bad_place (code_of line)) (if nat_lt 4096 (length line) then faulty fault.LineTooLong else text_outcome d is_first (tokens_of (code_of line)))

-- the word that tokens begin with, if it is the first word of a line
abbrev pub word_of : List Lexeme → Option Keyword
word_of (Name text ∷ tokens) = keyword_of text
word_of _ = None

-- the first word of a line
unfoldable pub line_word : List ℕ → Option Keyword
line_word line = word_of (lexemes (tokens_of (code_of line)))

-- a line with this first word begins no block, and leaves the alphabet
abbrev pub word_waits : Option Keyword → Bool
word_waits (Some k.Alphabet) = false
word_waits (Some k.Group) = false
word_waits _ = true

-- a line with this first word defines nothing
abbrev pub word_asks : Option Keyword → Bool
word_asks (Some k.Alphabet) = false
word_asks (Some k.Group) = false
word_asks (Some k.Let) = false
word_asks _ = true

-- a statement is a question unless it defines letters or names
abbrev pub is_question : Statement → Bool
is_question (st.Alphabet a) = false
is_question (st.Group recursions) = false
is_question (st.Let name e) = false
is_question _ = true

-- the answer is yes for a question and no for a definition
abbrev pub TellsQuestion : Body → Bool → Type 0
TellsQuestion (b.Says statement) answer = answer ≡ is_question statement
TellsQuestion (b.Faulty fault) answer = Unit {0}

-- what is kept says this
abbrev pub form_body : Form → Body
form_body (f.Line text d is_first n) = body_of n (outcome_of d is_first text.items)
form_body (f.Whole body) = body

-- a line that is kept begins no block and leaves the alphabet
abbrev pub IsForm : Form → Type 0
IsForm (f.Line text d is_first n) = word_waits (line_word text.items) ≡ true
IsForm (f.Whole body) = Unit {0}

-- what is told
abbrev pub told_body : Telling → Body
told_body (t.Held body) = body.now
told_body (t.Read body) = body

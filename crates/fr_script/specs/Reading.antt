-- A line outside a block: what it says, or its first fault in the order of the search.
use Rattle.std.specs.Prelude.{ℕ, ◌≡◌, Bool, false, not, ◌||◌, nat_lt, if◌then◌else◌, List, [], ◌∷◌, length, is_some, MatchBool, MatchOption}
use Rattle.fr_script.specs.declared.fault.LineFault.{LineFault}
use Rattle.fr_script.specs.declared.fault.LineFault.TheVariants as f
use Rattle.fr_syntax.specs.declared.statement.Statement.TheVariants as st
use Rattle.fr_syntax.specs.declared.line.Line.{Line}
use Rattle.fr_syntax.specs.declared.line.Line.TheVariants as l
use Rattle.fr_syntax.specs.declared.line.ReadLine.{ReadLine}
use Rattle.fr_script.specs.declared.outcome.LineOutcome.{LineOutcome}
use Rattle.fr_script.specs.declared.outcome.LineOutcome.TheVariants as o
use Rattle.fr_syntax.specs.Tokens.{Lexeme, Name}
use Rattle.fr_syntax.specs.Keywords.{keyword_of}
use Rattle.fr_syntax.specs.Grammar.{LineTree, line_tokens}
use Rattle.fr_syntax.specs.LineValues.{line_read}
use Rattle.fr_syntax.specs.Faults.{IsFaultAt}
use Rattle.fr_syntax.specs.Lines.{Located, lexemes, code_of, tokens_of, bad_place, place_of, passes_nesting}

-- whether a token is the first word of a line
abbrev pub is_statement : Lexeme → Bool
is_statement (Name text) = is_some (keyword_of text)
is_statement _ = false

-- whether tokens begin with the first word of a line
abbrev pub begins_statement : List Lexeme → Bool
begins_statement [] = false
begins_statement (token ∷ tokens) = is_statement token

-- a line with this fault
abbrev pub faulty : LineFault → LineOutcome
faulty fault = o.Faulty fault

-- an `alphabet` line of the grammar
abbrev pub alphabet : Bool → ℕ → LineOutcome
alphabet is_first letters =
    if not is_first then faulty f.AlphabetPlace else (if nat_lt letters 2 || nat_lt 8 letters then faulty f.AlphabetRange else o.Says (st.Alphabet letters))

-- a line of the grammar without a fault of its numbers
abbrev pub said : Bool → Line → LineOutcome
said is_first l.Group = o.Group
said is_first (l.Says statement) = o.Says statement
said is_first (l.Alphabet letters) = alphabet is_first letters

-- a line of the grammar: the faults of its numbers, and then those of `alphabet`
abbrev pub checked : Bool → ReadLine → LineOutcome
checked is_first read =
    if read.notes.not_a_letter then faulty f.NotALetter else (if read.notes.power_passed then faulty f.PowerPassed else said is_first read.line)

-- the line of the grammar that the tokens are, or the place where they stop to begin one
pub data Parses (d : ℕ) (is_first : Bool) (tokens : List Located) : LineOutcome → Type 0 where
  derived : (line : LineTree) → lexemes tokens ≡ line_tokens line → Parses d is_first tokens (checked is_first (line_read d line))
  syntax : (k : ℕ) → IsFaultAt line_tokens (lexemes tokens) k → Parses d is_first tokens (faulty (f.Syntax (place_of tokens k)))

-- the faults that the tokens of a line decide
abbrev pub ReadsText : ℕ → Bool → List Located → LineOutcome → Type 0
ReadsText d is_first tokens outcome =
    MatchBool (begins_statement (lexemes tokens))
    (MatchBool (passes_nesting 0 0 (lexemes tokens)) (outcome ≡ faulty f.NestingPassed) (Parses d is_first tokens outcome))
    (outcome ≡ faulty f.UnknownStatement)

-- the faults of bytes come first
abbrev pub ReadsLine : ℕ → Bool → List ℕ → LineOutcome → Type 0
ReadsLine d is_first line outcome =
    MatchOption (bad_place (code_of line))
    (MatchBool (nat_lt 4096 (length line)) (outcome ≡ faulty f.LineTooLong) (ReadsText d is_first (tokens_of (code_of line)) outcome))
    (λ place. outcome ≡ faulty (f.BadByte place))

-- A line that has no fault says what its first word tells.
use Rattle.std.proofs.Common.{◌≡◌, ℕ, Bool, true, false, List, [], ◌∷◌, length, Option, Some, refl, ap, sym, ◌∙◌, subst, MatchBool, not, ◌||◌}
use Rattle.std.specs.Prelude.{nat_lt, codes, if◌then◌else◌}
use Rattle.std.specs.Str.{bytes_eq}
use Rattle.fr_syntax.specs.declared.keyword.Keyword.{Keyword}
use Rattle.fr_syntax.specs.declared.keyword.Keyword.TheVariants as k
use Rattle.fr_syntax.specs.declared.statement.Statement.{Statement}
use Rattle.fr_syntax.specs.declared.statement.Statement.TheVariants as st
use Rattle.fr_syntax.specs.Tokens.{Lexeme, Name, Number, Sign}
use Rattle.fr_syntax.specs.Keywords.{keyword_of}
use Rattle.fr_syntax.specs.Grammar.{LineTree, AlphabetLine, GroupLine, LetLine, ShowLine, StatesLine, WreathLine, ClassLine, EqLine, ActLine, RayLine, OrderLine, NucleusLine, spelling, word}
use Rattle.fr_syntax.specs.Values.{capped_value}
use Rattle.fr_syntax.specs.LineValues.{line_read, line_value, line_notes}
use Rattle.fr_syntax.specs.Lines.{Located, lexemes, code_of, tokens_of, bad_place, passes_nesting}
use Rattle.fr_script.specs.declared.fault.LineFault.{LineFault}
use Rattle.fr_script.specs.declared.fault.LineFault.TheVariants as f
use Rattle.fr_script.specs.declared.outcome.LineOutcome.{LineOutcome}
use Rattle.fr_script.specs.declared.outcome.LineOutcome.TheVariants as o
use Rattle.fr_script.specs.Reading.{begins_statement, faulty, said, checked, Parses, derived, syntax, ReadsText, ReadsLine}
use Rattle.fr_script.specs.Items.{is_word, kind_of, line_kind, is_group}
use Rattle.fr_script.specs.Keeping.{word_of, line_word, word_waits}
use Rattle.fr_script.proofs.Choices.{any_bool, any_option}
use Rattle.fr_script.proofs.CycleLaws.{clash}
use Rattle.fr_script.proofs.KeywordLaws.{first_word, first-token, group-first}

keyword-spelled : (keyword : Keyword) → keyword_of (spelling keyword) ≡ Some keyword
unfolding keyword_of
keyword-spelled k.Alphabet = refl
keyword-spelled k.Group = refl
keyword-spelled k.Let = refl
keyword-spelled k.Show = refl
keyword-spelled k.States = refl
keyword-spelled k.Wreath = refl
keyword-spelled k.Class = refl
keyword-spelled k.Eq = refl
keyword-spelled k.Act = refl
keyword-spelled k.Ray = refl
keyword-spelled k.Order = refl
keyword-spelled k.Nucleus = refl

-- the word that a statement begins with
abbrev pub said_word : Statement → Keyword
said_word (st.Alphabet a) = k.Alphabet
said_word (st.Group recursions) = k.Group
said_word (st.Let name e) = k.Let
said_word (st.Show e) = k.Show
said_word (st.States e) = k.States
said_word (st.Wreath e) = k.Wreath
said_word (st.ClassOf e) = k.Class
said_word (st.Eq left right) = k.Eq
said_word (st.Act e w) = k.Act
said_word (st.RayOf e ray) = k.Ray
said_word (st.Order e bound) = k.Order
said_word (st.NucleusOf es) = k.Nucleus

-- an outcome without fault has this first word
abbrev pub Begins : Option Keyword → LineOutcome → Type 0
Begins first o.Group = first ≡ Some k.Group
Begins first (o.Says statement) = first ≡ Some (said_word statement)
Begins first (o.Faulty kind) = Unit {0}

begins-faulty : (first : Option Keyword) (kind : LineFault) (outcome : LineOutcome) → outcome ≡ faulty kind → Begins first outcome
begins-faulty first kind outcome e = let P : LineOutcome → Type 0 = λ x. Begins first x in subst P (sym e) tt

begins-alphabet : (not_first out : Bool) (letters : ℕ) →
    Begins (Some k.Alphabet) (if not_first then faulty f.AlphabetPlace else (if out then faulty f.AlphabetRange else o.Says (st.Alphabet letters)))
begins-alphabet true out letters = tt
begins-alphabet false true letters = tt
begins-alphabet false false letters = refl

begins-said : (d : ℕ) (is_first : Bool) (line : LineTree) → Begins (Some (first_word line)) (said is_first (line_value d line))
begins-said d is_first (AlphabetLine text) = begins-alphabet (not is_first) (nat_lt (capped_value text) 2 || nat_lt 8 (capped_value text)) (capped_value text)
begins-said d is_first GroupLine = refl
begins-said d is_first (LetLine name expr) = refl
begins-said d is_first (ShowLine expr) = refl
begins-said d is_first (StatesLine expr) = refl
begins-said d is_first (WreathLine expr) = refl
begins-said d is_first (ClassLine expr) = refl
begins-said d is_first (EqLine left right) = refl
begins-said d is_first (ActLine expr w) = refl
begins-said d is_first (RayLine expr ray) = refl
begins-said d is_first (OrderLine expr text) = refl
begins-said d is_first (NucleusLine exprs) = refl

begins-unless : (word : Option Keyword) (first second : Bool) (a b : LineFault) (outcome : LineOutcome) → Begins word outcome →
    Begins word (if first then faulty a else (if second then faulty b else outcome))
begins-unless word true second a b outcome h = tt
begins-unless word false true a b outcome h = tt
begins-unless word false false a b outcome h = h

begins-checked : (d : ℕ) (is_first : Bool) (line : LineTree) → Begins (Some (first_word line)) (checked is_first (line_read d line))
begins-checked d is_first line =
    begins-unless (Some (first_word line)) (line_notes d line).not_a_letter (line_notes d line).power_passed f.NotALetter f.PowerPassed (said is_first (line_value d line)) (begins-said d is_first line)

begins-parses : (d : ℕ) (is_first : Bool) (tokens : List Located) (outcome : LineOutcome) → Parses d is_first tokens outcome → Begins (word_of (lexemes tokens)) outcome
begins-parses d is_first tokens _ (derived line h) =
    let first = first-token line in
    let is : word_of (lexemes tokens) ≡ Some (first_word line) = ap word_of h ∙ ap word_of first.1 ∙ keyword-spelled (first_word line) in
    let P : Option Keyword → Type 0 = λ first. Begins first (checked is_first (line_read d line)) in
    subst P (sym is) (begins-checked d is_first line)
begins-parses d is_first tokens _ (syntax n h) = tt

-- a line that has no fault begins with the word of what it says
pub line-begins : (d : ℕ) (is_first : Bool) (line : List ℕ) (outcome : LineOutcome) → ReadsLine d is_first line outcome → Begins (line_word line) outcome
unfolding line_word
line-begins d is_first line outcome =
    let tokens = tokens_of (code_of line) in
    let first = word_of (lexemes tokens) in
    let fault : (kind : LineFault) → outcome ≡ faulty kind → Begins first outcome = λ kind e. begins-faulty first kind outcome e in
    let parses = Parses d is_first tokens outcome in
    let nests = MatchBool (passes_nesting 0 0 (lexemes tokens)) (outcome ≡ faulty f.NestingPassed) parses in
    let text = ReadsText d is_first tokens outcome in
    any_option (bad_place (code_of line)) (MatchBool (nat_lt 4096 (length line)) (outcome ≡ faulty f.LineTooLong) text) (λ place. outcome ≡ faulty (f.BadByte place))
    (any_bool (nat_lt 4096 (length line)) (outcome ≡ faulty f.LineTooLong) text (fault f.LineTooLong)
    (any_bool (begins_statement (lexemes tokens)) nests (outcome ≡ faulty f.UnknownStatement)
    (any_bool (passes_nesting 0 0 (lexemes tokens)) (outcome ≡ faulty f.NestingPassed) parses (fault f.NestingPassed) (begins-parses d is_first tokens outcome))
    (fault f.UnknownStatement)))
    (λ place. fault (f.BadByte place))

waits-second : (first second : Bool) (others : Option Keyword) → word_waits (if first then Some k.Alphabet else (if second then Some k.Group else others)) ≡ true → second ≡ false
waits-second true second others h = absurd (clash h refl)
waits-second false true others h = absurd (clash h refl)
waits-second false false others h = refl

waits-name : (text : List ℕ) → word_waits (keyword_of text) ≡ true → is_word (codes "group") (Name text) ≡ false
unfolding keyword_of
waits-name text h = waits-second (bytes_eq text (codes "alphabet")) (bytes_eq text (codes "group")) _ h

waits-token : (token : Lexeme) (rest : List Lexeme) → word_waits (word_of (token ∷ rest)) ≡ true → is_word (codes "group") token ≡ false
waits-token (Name text) rest h = waits-name text h
waits-token (Number text) rest h = refl
waits-token (Sign mark) rest h = refl

waits-tokens : (tokens : List Lexeme) → word_waits (word_of tokens) ≡ true → is_group (kind_of tokens) ≡ false
waits-tokens [] h = refl
waits-tokens (token ∷ rest) h = group-first token rest ∙ waits-token token rest h

-- a line that may wait is no `group` line
pub waits-kind : (line : List ℕ) → word_waits (line_word line) ≡ true → is_group (line_kind line) ≡ false
unfolding line_word line_kind
waits-kind line h = waits-tokens (lexemes (tokens_of (code_of line))) h

-- the first word of a line by its first token, and of one without tokens
pub first-of : (line : List ℕ) (tokens : List Lexeme) (first : Option Keyword) → lexemes (tokens_of (code_of line)) ≡ tokens → first ≡ word_of tokens → first ≡ line_word line
unfolding line_word
first-of line tokens first h k = k ∙ sym (ap word_of h)

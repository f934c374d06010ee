-- A line whose first token is `group` begins a block or is faulty, and no other line begins one.
use Rattle.std.proofs.Common.{◌≡◌, ℕ, Bool, true, false, List, [], ◌∷◌, length, refl, ap, sym, ◌∙◌, subst, MatchBool, not, ◌||◌}
use Rattle.std.specs.Prelude.{nat_lt, codes, if◌then◌else◌}
use Rattle.fr_syntax.specs.declared.keyword.Keyword.{Keyword}
use Rattle.fr_syntax.specs.declared.keyword.Keyword.TheVariants as k
use Rattle.fr_syntax.specs.declared.statement.Statement.TheVariants as st
use Rattle.fr_syntax.specs.Tokens.{Lexeme}
use Rattle.fr_syntax.specs.Grammar.{LineTree, AlphabetLine, GroupLine, LetLine, ShowLine, StatesLine, WreathLine, ClassLine, EqLine, ActLine, RayLine, OrderLine, NucleusLine, line_tokens, word}
use Rattle.fr_syntax.specs.Values.{capped_value}
use Rattle.fr_syntax.specs.LineValues.{line_read, line_value, line_notes}
use Rattle.fr_syntax.specs.Lines.{Located, lexemes, code_of, tokens_of, bad_place, place_of, passes_nesting}
use Rattle.fr_script.specs.declared.fault.LineFault.{LineFault}
use Rattle.fr_script.specs.declared.fault.LineFault.TheVariants as f
use Rattle.fr_script.specs.declared.outcome.LineOutcome.{LineOutcome}
use Rattle.fr_script.specs.declared.outcome.LineOutcome.TheVariants as o
use Rattle.fr_script.specs.declared.item.LineKind.{LineKind}
use Rattle.fr_script.specs.declared.item.LineKind.TheVariants as kind
use Rattle.fr_script.specs.Reading.{begins_statement, faulty, said, checked, Parses, derived, syntax, ReadsText, ReadsLine}
use Rattle.fr_script.specs.Items.{is_word, kind_of, line_kind, is_group}
use Rattle.fr_script.proofs.Choices.{any_bool, any_option}

-- whether an outcome is one of a `group` line, or one of another line
abbrev pub Matches : Bool → LineOutcome → Type 0
Matches true (o.Says statement) = ⊥
Matches false o.Group = ⊥
Matches _ _ = Unit {0}

faulty-matches : (group : Bool) (fault : LineFault) → Matches group (faulty fault)
faulty-matches true fault = tt
faulty-matches false fault = tt

faulty-is : (group : Bool) (fault : LineFault) (outcome : LineOutcome) → outcome ≡ faulty fault → Matches group outcome
faulty-is group fault outcome e = let P : LineOutcome → Type 0 = λ x. Matches group x in subst P (sym e) (faulty-matches group fault)

kind_by : (b : Bool) (k : LineKind) → is_group k ≡ false → is_group (if b then kind.Group else k) ≡ b
kind_by true k h = refl
kind_by false k h = h

end_by : (b : Bool) → is_group (if b then kind.End else kind.Other) ≡ false
end_by true = refl
end_by false = refl

pub group-first : (token : Lexeme) (rest : List Lexeme) → is_group (kind_of (token ∷ rest)) ≡ is_word (codes "group") token
group-first token [] = kind_by (is_word (codes "group") token) (if is_word (codes "end") token then kind.End else kind.Other) (end_by (is_word (codes "end") token))
group-first token (other ∷ rest) = kind_by (is_word (codes "group") token) kind.Other refl

abbrev pub first_word : LineTree → Keyword
first_word (AlphabetLine text) = k.Alphabet
first_word GroupLine = k.Group
first_word (LetLine name expr) = k.Let
first_word (ShowLine expr) = k.Show
first_word (StatesLine expr) = k.States
first_word (WreathLine expr) = k.Wreath
first_word (ClassLine expr) = k.Class
first_word (EqLine left right) = k.Eq
first_word (ActLine expr w) = k.Act
first_word (RayLine expr ray) = k.Ray
first_word (OrderLine expr text) = k.Order
first_word (NucleusLine exprs) = k.Nucleus

pub first-token : (line : LineTree) → (rest : List Lexeme) × (line_tokens line ≡ word (first_word line) ∷ rest)
first-token (AlphabetLine text) = (_, refl)
first-token GroupLine = (_, refl)
first-token (LetLine name expr) = (_, refl)
first-token (ShowLine expr) = (_, refl)
first-token (StatesLine expr) = (_, refl)
first-token (WreathLine expr) = (_, refl)
first-token (ClassLine expr) = (_, refl)
first-token (EqLine left right) = (_, refl)
first-token (ActLine expr w) = (_, refl)
first-token (RayLine expr ray) = (_, refl)
first-token (OrderLine expr text) = (_, refl)
first-token (NucleusLine exprs) = (_, refl)

abbrev is_group_line : LineTree → Bool
is_group_line GroupLine = true
is_group_line _ = false

group-word : (line : LineTree) → is_word (codes "group") (word (first_word line)) ≡ is_group_line line
group-word (AlphabetLine text) = refl
group-word GroupLine = refl
group-word (LetLine name expr) = refl
group-word (ShowLine expr) = refl
group-word (StatesLine expr) = refl
group-word (WreathLine expr) = refl
group-word (ClassLine expr) = refl
group-word (EqLine left right) = refl
group-word (ActLine expr w) = refl
group-word (RayLine expr ray) = refl
group-word (OrderLine expr text) = refl
group-word (NucleusLine exprs) = refl

group-line : (line : LineTree) → is_group (kind_of (line_tokens line)) ≡ is_group_line line
group-line line =
    let first = first-token line in
    ap (λ tokens. is_group (kind_of tokens)) first.1 ∙ group-first (word (first_word line)) first.0 ∙ group-word line

alphabet-matches : (not_first out : Bool) (letters : ℕ) →
    Matches false (if not_first then faulty f.AlphabetPlace else (if out then faulty f.AlphabetRange else o.Says (st.Alphabet letters)))
alphabet-matches true out letters = tt
alphabet-matches false true letters = tt
alphabet-matches false false letters = tt

said-matches : (d : ℕ) (is_first : Bool) (line : LineTree) → Matches (is_group_line line) (said is_first (line_value d line))
said-matches d is_first (AlphabetLine text) = alphabet-matches (not is_first) (nat_lt (capped_value text) 2 || nat_lt 8 (capped_value text)) (capped_value text)
said-matches d is_first GroupLine = tt
said-matches d is_first (LetLine name expr) = tt
said-matches d is_first (ShowLine expr) = tt
said-matches d is_first (StatesLine expr) = tt
said-matches d is_first (WreathLine expr) = tt
said-matches d is_first (ClassLine expr) = tt
said-matches d is_first (EqLine left right) = tt
said-matches d is_first (ActLine expr w) = tt
said-matches d is_first (RayLine expr ray) = tt
said-matches d is_first (OrderLine expr text) = tt
said-matches d is_first (NucleusLine exprs) = tt

refused-matches : (group : Bool) (first second : Bool) (a b : LineFault) (outcome : LineOutcome) → Matches group outcome →
    Matches group (if first then faulty a else (if second then faulty b else outcome))
refused-matches group true second a b outcome h = faulty-matches group a
refused-matches group false true a b outcome h = faulty-matches group b
refused-matches group false false a b outcome h = h

checked-matches : (d : ℕ) (is_first : Bool) (line : LineTree) → Matches (is_group_line line) (checked is_first (line_read d line))
checked-matches d is_first line =
    refused-matches (is_group_line line) (line_notes d line).not_a_letter (line_notes d line).power_passed f.NotALetter f.PowerPassed (said is_first (line_value d line)) (said-matches d is_first line)

parses-matches : (d : ℕ) (is_first : Bool) (tokens : List Located) (outcome : LineOutcome) → Parses d is_first tokens outcome → Matches (is_group (kind_of (lexemes tokens))) outcome
parses-matches d is_first tokens _ (derived line h) =
    let is : is_group (kind_of (lexemes tokens)) ≡ is_group_line line = ap (λ t. is_group (kind_of t)) h ∙ group-line line in
    let P : Bool → Type 0 = λ group. Matches group (checked is_first (line_read d line)) in
    subst P (sym is) (checked-matches d is_first line)
parses-matches d is_first tokens _ (syntax n h) = faulty-matches (is_group (kind_of (lexemes tokens))) (f.Syntax (place_of tokens n))

-- what a line outside a block is, its first token tells
pub kind-matches : (d : ℕ) (is_first : Bool) (line : List ℕ) (outcome : LineOutcome) → ReadsLine d is_first line outcome → Matches (is_group (line_kind line)) outcome
unfolding line_kind
kind-matches d is_first line outcome =
    let tokens = tokens_of (code_of line) in
    let group = is_group (kind_of (lexemes tokens)) in
    let fault : (kind : LineFault) → outcome ≡ faulty kind → Matches group outcome = λ kind e. faulty-is group kind outcome e in
    let parses = Parses d is_first tokens outcome in
    let nests = MatchBool (passes_nesting 0 0 (lexemes tokens)) (outcome ≡ faulty f.NestingPassed) parses in
    let text = ReadsText d is_first tokens outcome in
    any_option (bad_place (code_of line)) (MatchBool (nat_lt 4096 (length line)) (outcome ≡ faulty f.LineTooLong) text) (λ place. outcome ≡ faulty (f.BadByte place))
    (any_bool (nat_lt 4096 (length line)) (outcome ≡ faulty f.LineTooLong) text (fault f.LineTooLong)
    (any_bool (begins_statement (lexemes tokens)) nests (outcome ≡ faulty f.UnknownStatement)
    (any_bool (passes_nesting 0 0 (lexemes tokens)) (outcome ≡ faulty f.NestingPassed) parses (fault f.NestingPassed) (parses-matches d is_first tokens outcome))
    (fault f.UnknownStatement)))
    (λ place. fault (f.BadByte place))

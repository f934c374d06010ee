-- What lines say fits their alphabet.
use Rattle.std.proofs.Common.{◌≡◌, ℕ, zero, suc, ◌+◌, ◌≤◌, Bool, true, false, not, ◌||◌, ◌==◌, List, [], ◌∷◌, length, take, Option, Some, None, refl, ap, sym, subst, arith, MatchBool}
use Rattle.std.specs.Prelude.{nat_lt, if◌then◌else◌, ◌-◌, slice_index}
use Rattle.std.proofs.lemmas.Bool.{eqb-true, ltb-false}
use Rattle.std.proofs.lemmas.List.{length-replicate, length-map, length-take-le}
use Rattle.fr_syntax.specs.declared.statement.SecName.{SecName}
use Rattle.fr_syntax.specs.declared.statement.Statement.TheVariants as st
use Rattle.fr_syntax.specs.declared.recursion.RecursionLine.{RecursionLine}
use Rattle.fr_syntax.specs.declared.line.Line.{Line}
use Rattle.fr_syntax.specs.declared.line.Line.TheVariants as l
use Rattle.fr_syntax.specs.Grammar.{LineTree, AlphabetLine, GroupLine, LetLine, ShowLine, StatesLine, WreathLine, ClassLine, EqLine, ActLine, RayLine, OrderLine, NucleusLine}
use Rattle.fr_syntax.specs.LineValues.{line_value, line_notes}
use Rattle.fr_syntax.specs.Recursions.{recursion_value}
use Rattle.fr_syntax.specs.Lines.{Located, lexemes, without_return, code_of, tokens_at, tokens_of, is_blank as is_blank_byte, rest_of_token, lexeme_of, bad_place, passes_nesting}
use Rattle.fr_syntax.specs.Fits.{FitsRecursion, FitsStatement, FitsLine}
use Rattle.fr_syntax.specs.Sizes.{statement_size, line_size}
use Rattle.fr_syntax.proofs.FitLaws.{line-fits}
use Rattle.fr_syntax.proofs.SizeLaws.{line-size}
use Rattle.fr_syntax.proofs.LexerLaws.{length-take_while}
use Rattle.fr_script.specs.declared.fault.LineFault.{LineFault}
use Rattle.fr_script.specs.declared.fault.LineFault.TheVariants as f
use Rattle.fr_script.specs.declared.outcome.LineOutcome.{LineOutcome}
use Rattle.fr_script.specs.declared.outcome.LineOutcome.TheVariants as o
use Rattle.fr_script.specs.declared.inner.InnerOutcome.{InnerOutcome}
use Rattle.fr_script.specs.declared.inner.InnerOutcome.TheVariants as i
use Rattle.fr_script.specs.Cycles.{cycles_letters, has_repeat}
use Rattle.fr_script.specs.Reading as r
use Rattle.fr_script.specs.Inner as inside
use Rattle.fr_script.specs.Items.{alphabet_after}
use Rattle.fr_script.specs.Keeping.{body_of}
use Rattle.fr_script.specs.Fits.{IsOfReading, FitsBody}
use Rattle.fr_script.proofs.Choices.{any_bool, any_option}
use Rattle.fr_script.proofs.CycleLaws.{IsPermutation-cycles}
use Rattle.fr_script.proofs.LetterLaws.{HasLetters-value}

-- what the line n inside a block says
abbrev pub InnerFits : ℕ → ℕ → InnerOutcome → Type 0
InnerFits d n (i.Says recursion) = (recursion.line ≡ n) × FitsRecursion d recursion
InnerFits d n (i.Faulty kind) = IsOfReading kind

inner-faulty : (d n : ℕ) (outcome : InnerOutcome) (kind : LineFault) → IsOfReading kind → outcome ≡ inside.faulty kind → InnerFits d n outcome
inner-faulty d n outcome kind h e = let P : InnerOutcome → Type 0 = λ x. InnerFits d n x in subst P (sym e) h

sections-arity : (d : ℕ) (sections : Option (List (List SecName))) → inside.arity_is d sections ≡ true → length (inside.sections_or d sections) ≡ d
sections-arity d (Some sections) h = eqb-true (length sections) d h
sections-arity d None h = length-replicate d []

checked-fits : (d n : ℕ) (line : RecursionLine) → inside.HasLetters d line → InnerFits d n (inside.checked d n line)
checked-fits d n line letters = by line.not_a_letter (inside.has_arity d line) (has_repeat (cycles_letters line.cycles)) refl refl refl
  where
    by : (refused arity repeat : Bool) → line.not_a_letter ≡ refused → inside.has_arity d line ≡ arity → has_repeat (cycles_letters line.cycles) ≡ repeat →
        InnerFits d n (if refused then inside.faulty f.NotALetter else (if not arity then inside.faulty f.WrongArity else (if repeat then inside.faulty f.NotPermutation else i.Says (inside.recursion d n line))))
    by true arity repeat h g e = tt
    by false false repeat h g e = tt
    by false true true h g e = tt
    by false true false h g e = (refl, record { permutes = IsPermutation-cycles d line.cycles (letters h) e; arity = sections-arity d line.sections g })

inner-parses : (d n : ℕ) (tokens : List Located) (outcome : InnerOutcome) → inside.Parses d n tokens outcome → InnerFits d n outcome
inner-parses d n tokens _ (inside.derived tree h) = checked-fits d n (recursion_value d tree) (HasLetters-value d tree)
inner-parses d n tokens _ (inside.syntax k h) = tt

pub inner-fits : (d n : ℕ) (line : List ℕ) (outcome : InnerOutcome) → inside.ReadsInner d n line outcome → InnerFits d n outcome
inner-fits d n line outcome =
    let tokens = tokens_of (code_of line) in
    let parses = inside.Parses d n tokens outcome in
    let text = inside.ReadsText d n tokens outcome in
    any_option (bad_place (code_of line)) (MatchBool (nat_lt 4096 (length line)) (outcome ≡ inside.faulty f.LineTooLong) text) (λ place. outcome ≡ inside.faulty (f.BadByte place))
    (any_bool (nat_lt 4096 (length line)) (outcome ≡ inside.faulty f.LineTooLong) text (inner-faulty d n outcome f.LineTooLong tt)
    (any_bool (passes_nesting 0 0 (lexemes tokens)) (outcome ≡ inside.faulty f.NestingPassed) parses (inner-faulty d n outcome f.NestingPassed tt) (inner-parses d n tokens outcome)))
    (λ place. inner-faulty d n outcome (f.BadByte place) tt)

cell-few : (blank : Bool) (token : Located) (after behind : List Located) (cs : List ℕ) → length after ≤ length cs → length behind ≤ length cs →
    length (if blank then after else token ∷ behind) ≤ suc (length cs)
cell-few true token after behind cs h g = omega (arith, h)
cell-few false token after behind cs h g = omega (arith, g)

-- a text has no more tokens than bytes
tokens-few : (p k : ℕ) (cs : List ℕ) → length (tokens_at p k cs) ≤ length cs
tokens-few p k [] = omega arith
tokens-few p (suc k) (c ∷ cs) = omega (arith, tokens-few (suc p) k cs)
tokens-few p zero (c ∷ cs) =
    cell-few (is_blank_byte c) (record { lexeme = lexeme_of c (rest_of_token c cs); place = p; after = suc p + length (rest_of_token c cs) })
    (tokens_at (suc p) zero cs) (tokens_at (suc p) (length (rest_of_token c cs)) cs) cs (tokens-few (suc p) zero cs) (tokens-few (suc p) (length (rest_of_token c cs)) cs)

return-few : (line : List ℕ) → length (without_return line) ≤ length line
return-few line = by (slice_index line (length line - 1) == 13)
  where
    by : (b : Bool) → length (if b then take (length line - 1) line else line) ≤ length line
    by true = omega (arith, length-take-le (length line - 1) line (omega arith))
    by false = omega arith

code-few : (line : List ℕ) → length (code_of line) ≤ length line
code-few line = omega (arith, return-few line, length-take_while (λ c. not (c == 35)) (without_return line))

line-tokens-few : (line : List ℕ) → length (lexemes (tokens_of (code_of line))) ≤ length line
unfolding tokens_of
line-tokens-few line = omega (arith, length-map (tokens_at 1 0 (code_of line)) (λ token. token.lexeme), tokens-few 1 0 (code_of line), code-few line)

-- what a line outside a block says, whichever lines its item has
abbrev pub OutcomeFits : ℕ → LineOutcome → Type 0
OutcomeFits d o.Group = Unit {0}
OutcomeFits d (o.Says statement) = ((low high : ℕ) → FitsStatement d low high statement) × (statement_size statement ≤ 4096)
OutcomeFits d (o.Faulty kind) = IsOfReading kind

outcome-faulty : (d : ℕ) (outcome : LineOutcome) (kind : LineFault) → IsOfReading kind → outcome ≡ r.faulty kind → OutcomeFits d outcome
outcome-faulty d outcome kind h e = let P : LineOutcome → Type 0 = λ x. OutcomeFits d x in subst P (sym e) h

alphabet-fits : (d : ℕ) (not_first out : Bool) (letters : ℕ) →
    OutcomeFits d (if not_first then r.faulty f.AlphabetPlace else (if out then r.faulty f.AlphabetRange else o.Says (st.Alphabet letters)))
alphabet-fits d true out letters = tt
alphabet-fits d false true letters = tt
alphabet-fits d false false letters = ((λ low high. tt), omega arith)

said-fits : (d : ℕ) (is_first : Bool) (line : Line) → FitsLine d line → line_size line ≤ 4096 → OutcomeFits d (r.said is_first line)
said-fits d is_first (l.Alphabet letters) h g = alphabet-fits d (not is_first) (nat_lt letters 2 || nat_lt 8 letters) letters
said-fits d is_first l.Group h g = tt
said-fits d is_first (l.Says statement) h g = (h, g)

unless-refused : (d : ℕ) (first second : Bool) (a b : LineFault) (outcome : LineOutcome) → IsOfReading a → IsOfReading b → OutcomeFits d outcome →
    OutcomeFits d (if first then r.faulty a else (if second then r.faulty b else outcome))
unless-refused d true second a b outcome x y h = x
unless-refused d false true a b outcome x y h = y
unless-refused d false false a b outcome x y h = h

line-parses : (d : ℕ) (is_first : Bool) (text : List ℕ) (outcome : LineOutcome) → length (lexemes (tokens_of text)) ≤ 4096 → length text ≤ 4096 →
    r.Parses d is_first (tokens_of text) outcome → OutcomeFits d outcome
line-parses d is_first text _ few short (r.derived line h) =
    let small : line_size (line_value d line) ≤ 4096 = omega (arith, line-size d line, ap length h, few) in
    by (line_notes d line).not_a_letter refl (λ e. said-fits d is_first (line_value d line) (line-fits d text line h short e) small)
  where
    by : (refused : Bool) → (line_notes d line).not_a_letter ≡ refused → ((line_notes d line).not_a_letter ≡ false → OutcomeFits d (r.said is_first (line_value d line))) →
        OutcomeFits d (if refused then r.faulty f.NotALetter else (if (line_notes d line).power_passed then r.faulty f.PowerPassed else r.said is_first (line_value d line)))
    by true e fits = tt
    by false e fits = unless-refused d false (line_notes d line).power_passed f.NotALetter f.PowerPassed (r.said is_first (line_value d line)) tt tt (fits e)
line-parses d is_first text _ few short (r.syntax k h) = tt

pub outcome-fits : (d : ℕ) (is_first : Bool) (line : List ℕ) (outcome : LineOutcome) → r.ReadsLine d is_first line outcome → OutcomeFits d outcome
outcome-fits d is_first line outcome =
    let tokens = tokens_of (code_of line) in
    let parses = r.Parses d is_first tokens outcome in
    let nests = MatchBool (passes_nesting 0 0 (lexemes tokens)) (outcome ≡ r.faulty f.NestingPassed) parses in
    let text = r.ReadsText d is_first tokens outcome in
    let fault : (kind : LineFault) → IsOfReading kind → outcome ≡ r.faulty kind → OutcomeFits d outcome = λ kind h e. outcome-faulty d outcome kind h e in
    let short : nat_lt 4096 (length line) ≡ false → text → OutcomeFits d outcome = λ h.
    any_bool (r.begins_statement (lexemes tokens)) nests (outcome ≡ r.faulty f.UnknownStatement)
    (any_bool (passes_nesting 0 0 (lexemes tokens)) (outcome ≡ r.faulty f.NestingPassed) parses (fault f.NestingPassed tt)
    (line-parses d is_first (code_of line) outcome (omega (arith, ltb-false 4096 (length line) h, line-tokens-few line))
    (omega (arith, ltb-false 4096 (length line) h, code-few line))))
    (fault f.UnknownStatement tt) in
    any_option (bad_place (code_of line)) (MatchBool (nat_lt 4096 (length line)) (outcome ≡ r.faulty f.LineTooLong) text) (λ place. outcome ≡ r.faulty (f.BadByte place))
    (by (nat_lt 4096 (length line)) refl (outcome ≡ r.faulty f.LineTooLong) text (fault f.LineTooLong tt) short)
    (λ place. fault (f.BadByte place) tt)
  where
    by : (long : Bool) → nat_lt 4096 (length line) ≡ long → (P Q : Type 0) → (P → OutcomeFits d outcome) → (nat_lt 4096 (length line) ≡ false → Q → OutcomeFits d outcome) →
        MatchBool long P Q → OutcomeFits d outcome
    by true h P Q p q x = p x
    by false h P Q p q x = q h x

-- the body of an item that is a line
pub body-fits : (d n high : ℕ) (outcome : LineOutcome) → n ≤ high → OutcomeFits d outcome → FitsBody (alphabet_after d (body_of n outcome)) n high (body_of n outcome)
body-fits d n high o.Group h g = (h, omega arith)
body-fits d n high (o.Says (st.Alphabet a)) h g = (tt, g.1)
body-fits d n high (o.Says (st.Group recursions)) h g = (g.0 n high, g.1)
body-fits d n high (o.Says (st.Let name e)) h g = (g.0 n high, g.1)
body-fits d n high (o.Says (st.Show e)) h g = (g.0 n high, g.1)
body-fits d n high (o.Says (st.States e)) h g = (g.0 n high, g.1)
body-fits d n high (o.Says (st.Wreath e)) h g = (g.0 n high, g.1)
body-fits d n high (o.Says (st.ClassOf e)) h g = (g.0 n high, g.1)
body-fits d n high (o.Says (st.Eq left right)) h g = (g.0 n high, g.1)
body-fits d n high (o.Says (st.Act e w)) h g = (g.0 n high, g.1)
body-fits d n high (o.Says (st.RayOf e ray)) h g = (g.0 n high, g.1)
body-fits d n high (o.Says (st.Order e k)) h g = (g.0 n high, g.1)
body-fits d n high (o.Says (st.NucleusOf es)) h g = (g.0 n high, g.1)
body-fits d n high (o.Faulty kind) h g = g

-- no accepted `alphabet` line
abbrev pub NoAlphabet : LineOutcome → Type 0
NoAlphabet (o.Says (st.Alphabet a)) = ⊥
NoAlphabet _ = Unit {0}

no-alphabet-faulty : (outcome : LineOutcome) (kind : LineFault) → outcome ≡ r.faulty kind → NoAlphabet outcome
no-alphabet-faulty outcome kind e = let P : LineOutcome → Type 0 = λ x. NoAlphabet x in subst P (sym e) tt

no-alphabet-said : (d : ℕ) (line : LineTree) → NoAlphabet (r.said false (line_value d line))
no-alphabet-said d (AlphabetLine text) = tt
no-alphabet-said d GroupLine = tt
no-alphabet-said d (LetLine name e) = tt
no-alphabet-said d (ShowLine e) = tt
no-alphabet-said d (StatesLine e) = tt
no-alphabet-said d (WreathLine e) = tt
no-alphabet-said d (ClassLine e) = tt
no-alphabet-said d (EqLine left right) = tt
no-alphabet-said d (ActLine e w) = tt
no-alphabet-said d (RayLine e ray) = tt
no-alphabet-said d (OrderLine e text) = tt
no-alphabet-said d (NucleusLine es) = tt

no-alphabet-unless : (first second : Bool) (a b : LineFault) (outcome : LineOutcome) → NoAlphabet outcome →
    NoAlphabet (if first then r.faulty a else (if second then r.faulty b else outcome))
no-alphabet-unless true second a b outcome h = tt
no-alphabet-unless false true a b outcome h = tt
no-alphabet-unless false false a b outcome h = h

no-alphabet-parses : (d : ℕ) (tokens : List Located) (outcome : LineOutcome) → r.Parses d false tokens outcome → NoAlphabet outcome
no-alphabet-parses d tokens _ (r.derived line h) =
    no-alphabet-unless (line_notes d line).not_a_letter (line_notes d line).power_passed f.NotALetter f.PowerPassed (r.said false (line_value d line)) (no-alphabet-said d line)
no-alphabet-parses d tokens _ (r.syntax k h) = tt

no-alphabet-line : (d : ℕ) (line : List ℕ) (outcome : LineOutcome) → r.ReadsLine d false line outcome → NoAlphabet outcome
no-alphabet-line d line outcome =
    let tokens = tokens_of (code_of line) in
    let parses = r.Parses d false tokens outcome in
    let nests = MatchBool (passes_nesting 0 0 (lexemes tokens)) (outcome ≡ r.faulty f.NestingPassed) parses in
    let text = r.ReadsText d false tokens outcome in
    let fault : (kind : LineFault) → outcome ≡ r.faulty kind → NoAlphabet outcome = λ kind e. no-alphabet-faulty outcome kind e in
    any_option (bad_place (code_of line)) (MatchBool (nat_lt 4096 (length line)) (outcome ≡ r.faulty f.LineTooLong) text) (λ place. outcome ≡ r.faulty (f.BadByte place))
    (any_bool (nat_lt 4096 (length line)) (outcome ≡ r.faulty f.LineTooLong) text (fault f.LineTooLong)
    (any_bool (r.begins_statement (lexemes tokens)) nests (outcome ≡ r.faulty f.UnknownStatement)
    (any_bool (passes_nesting 0 0 (lexemes tokens)) (outcome ≡ r.faulty f.NestingPassed) parses (fault f.NestingPassed) (no-alphabet-parses d tokens outcome))
    (fault f.UnknownStatement)))
    (λ place. fault (f.BadByte place))

-- and the alphabet stays
pub alphabet-stays : (d n : ℕ) (outcome : LineOutcome) → NoAlphabet outcome → alphabet_after d (body_of n outcome) ≡ d
alphabet-stays d n o.Group h = refl
alphabet-stays d n (o.Says (st.Alphabet a)) h = absurd h
alphabet-stays d n (o.Says (st.Group recursions)) h = refl
alphabet-stays d n (o.Says (st.Let name e)) h = refl
alphabet-stays d n (o.Says (st.Show e)) h = refl
alphabet-stays d n (o.Says (st.States e)) h = refl
alphabet-stays d n (o.Says (st.Wreath e)) h = refl
alphabet-stays d n (o.Says (st.ClassOf e)) h = refl
alphabet-stays d n (o.Says (st.Eq left right)) h = refl
alphabet-stays d n (o.Says (st.Act e w)) h = refl
alphabet-stays d n (o.Says (st.RayOf e ray)) h = refl
alphabet-stays d n (o.Says (st.Order e k)) h = refl
alphabet-stays d n (o.Says (st.NucleusOf es)) h = refl
alphabet-stays d n (o.Faulty kind) h = refl

-- a line that is not the first sets no alphabet
pub later-alphabet : (d n : ℕ) (line : List ℕ) (outcome : LineOutcome) → r.ReadsLine d false line outcome → alphabet_after d (body_of n outcome) ≡ d
later-alphabet d n line outcome h = alphabet-stays d n outcome (no-alphabet-line d line outcome h)

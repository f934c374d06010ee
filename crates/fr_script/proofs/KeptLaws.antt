-- A line that is kept unread says what it says when it is read.
use Rattle.std.proofs.Common.{◌≡◌, ◌≢◌, ℕ, Bool, true, false, List, Option, Some, None, refl, ap, sym, ◌∙◌, subst, length, MatchBool}
use Rattle.std.specs.Prelude.{nat_lt, if◌then◌else◌, MatchOption}
use Rattle.fr_syntax.specs.declared.keyword.Keyword.{Keyword}
use Rattle.fr_syntax.specs.declared.statement.Statement.{Statement}
use Rattle.fr_syntax.specs.declared.statement.Statement.TheVariants as st
use Rattle.fr_syntax.specs.Lines.{lexemes, code_of, tokens_of, bad_place, passes_nesting}
use Rattle.fr_syntax.specs.LineSteps.{reading}
use Rattle.fr_syntax.proofs.LineValueLaws.{reads}
use Rattle.fr_script.specs.declared.fault.LineFault.TheVariants as f
use Rattle.fr_script.specs.declared.outcome.LineOutcome.{LineOutcome}
use Rattle.fr_script.specs.declared.outcome.LineOutcome.TheVariants as o
use Rattle.fr_script.specs.declared.item.Body.{Body}
use Rattle.fr_script.specs.declared.item.LineKind.{LineKind}
use Rattle.fr_script.specs.declared.item.Outside.{Outside}
use Rattle.fr_script.specs.declared.item.Outside.TheVariants as out
use Rattle.fr_script.specs.Reading.{begins_statement, faulty, Parses, ReadsText, ReadsLine}
use Rattle.fr_script.specs.Items.{line_kind, is_blank, is_group, outside_of, alphabet_after, ReadsOutside}
use Rattle.fr_script.specs.Keeping.{body_of, IsBodyOf, unless_bad, outcome_of, line_word, word_waits, word_asks, is_question, TellsQuestion}
use Rattle.fr_script.proofs.ReadingLaws.{parses as parses_reading}
use Rattle.fr_script.proofs.OutcomeLaws.{one_line}
use Rattle.fr_script.proofs.CycleLaws.{clash}
use Rattle.fr_script.proofs.KindLaws.{other_outside}
use Rattle.fr_script.proofs.KeywordLaws.{kind-matches, Matches}
use Rattle.fr_script.proofs.ByLines.{outside-other}
use Rattle.fr_script.proofs.FitLaws.{NoAlphabet, alphabet-stays}
use Rattle.fr_script.proofs.WordLaws.{said_word, Begins, line-begins, waits-kind}

either : (test : Bool) (a b : LineOutcome) (P Q : LineOutcome → Type 0) → P a → Q b → MatchBool test (P (if test then a else b)) (Q (if test then a else b))
either true a b P Q p q = p
either false a b P Q p q = q

unless : (test : Option ℕ) (a : LineOutcome) (P : LineOutcome → Type 0) (Q : LineOutcome → ℕ → Type 0) → P a → ((n : ℕ) → Q (faulty (f.BadByte n)) n) →
    MatchOption test (P (unless_bad test a)) (Q (unless_bad test a))
unless None a P Q p q = p
unless (Some n) a P Q p q = q n

-- a line has this outcome
pub outcome_reads : (d : ℕ) (is_first : Bool) (line : List ℕ) → ReadsLine d is_first line (outcome_of d is_first line)
unfolding outcome_of
outcome_reads d is_first line =
    let tokens = tokens_of (code_of line) in
    let parses : LineOutcome → Type 0 = Parses d is_first tokens in
    let nests : LineOutcome → Type 0 = λ o. MatchBool (passes_nesting 0 0 (lexemes tokens)) (o ≡ faulty f.NestingPassed) (parses o) in
    let text : LineOutcome → Type 0 = ReadsText d is_first tokens in
    let short : LineOutcome → Type 0 = λ o. MatchBool (nat_lt 4096 (length line)) (o ≡ faulty f.LineTooLong) (text o) in
    let read = reading d (lexemes tokens) in
    unless (bad_place (code_of line)) _ short (λ o place. o ≡ faulty (f.BadByte place))
    (either (nat_lt 4096 (length line)) _ _ (λ o. o ≡ faulty f.LineTooLong) text refl
    (either (begins_statement (lexemes tokens)) _ _ nests (λ o. o ≡ faulty f.UnknownStatement)
    (either (passes_nesting 0 0 (lexemes tokens)) _ _ (λ o. o ≡ faulty f.NestingPassed) parses refl
    (parses_reading d is_first tokens read (reads d (lexemes tokens))))
    refl))
    (λ n. refl)

-- the outcome of a line is the one that it has
pub outcome_is : (d : ℕ) (is_first : Bool) (line : List ℕ) (outcome : LineOutcome) → ReadsLine d is_first line outcome → outcome_of d is_first line ≡ outcome
outcome_is d is_first line outcome has = one_line d is_first line (outcome_of d is_first line) outcome (outcome_reads d is_first line) has

-- a line that may wait begins no block
pub waits-no_group : (d : ℕ) (is_first : Bool) (line : List ℕ) (outcome : LineOutcome) → word_waits (line_word line) ≡ true → ReadsLine d is_first line outcome → outcome ≢ o.Group
waits-no_group d is_first line outcome h reads e =
    let first : line_word line ≡ _ = subst (Begins (line_word line)) e (line-begins d is_first line outcome reads) in
    clash (sym (ap word_waits first) ∙ h) refl

no-alphabet : (first : Option Keyword) (outcome : LineOutcome) → word_waits first ≡ true → Begins first outcome → NoAlphabet outcome
no-alphabet first o.Group h b = tt
no-alphabet first (o.Says (st.Alphabet a)) h b = absurd (clash (sym (ap word_waits b) ∙ h) refl)
no-alphabet first (o.Says (st.Group recursions)) h b = tt
no-alphabet first (o.Says (st.Let name e)) h b = tt
no-alphabet first (o.Says (st.Show e)) h b = tt
no-alphabet first (o.Says (st.States e)) h b = tt
no-alphabet first (o.Says (st.Wreath e)) h b = tt
no-alphabet first (o.Says (st.ClassOf e)) h b = tt
no-alphabet first (o.Says (st.Eq left right)) h b = tt
no-alphabet first (o.Says (st.Act e w)) h b = tt
no-alphabet first (o.Says (st.RayOf e ray)) h b = tt
no-alphabet first (o.Says (st.Order e bound)) h b = tt
no-alphabet first (o.Says (st.NucleusOf es)) h b = tt
no-alphabet first (o.Faulty kind) h b = tt

-- a line that may wait leaves the alphabet
pub waits-alphabet : (a d n : ℕ) (is_first : Bool) (line : List ℕ) → word_waits (line_word line) ≡ true → a ≡ alphabet_after a (body_of n (outcome_of d is_first line))
waits-alphabet a d n is_first line h =
    let outcome = outcome_of d is_first line in
    sym (alphabet-stays a n outcome (no-alphabet (line_word line) outcome h (line-begins d is_first line outcome (outcome_reads d is_first line))))

word_asks-said : (statement : Statement) → word_asks (Some (said_word statement)) ≡ is_question statement
word_asks-said (st.Alphabet a) = refl
word_asks-said (st.Group recursions) = refl
word_asks-said (st.Let name e) = refl
word_asks-said (st.Show e) = refl
word_asks-said (st.States e) = refl
word_asks-said (st.Wreath e) = refl
word_asks-said (st.ClassOf e) = refl
word_asks-said (st.Eq left right) = refl
word_asks-said (st.Act e w) = refl
word_asks-said (st.RayOf e ray) = refl
word_asks-said (st.Order e bound) = refl
word_asks-said (st.NucleusOf es) = refl

word-tells : (n : ℕ) (first : Option Keyword) (outcome : LineOutcome) → Begins first outcome → TellsQuestion (body_of n outcome) (word_asks first)
word-tells n first o.Group b = ap word_asks b
word-tells n first (o.Says statement) b = ap word_asks b ∙ word_asks-said statement
word-tells n first (o.Faulty kind) b = tt

-- the first word of a line tells whether the line asks
pub line-tells : (d n : ℕ) (is_first : Bool) (line : List ℕ) → TellsQuestion (body_of n (outcome_of d is_first line)) (word_asks (line_word line))
line-tells d n is_first line =
    let outcome = outcome_of d is_first line in
    word-tells n (line_word line) outcome (line-begins d is_first line outcome (outcome_reads d is_first line))

-- what is kept of a line says what the line says
pub kept-says : (d n : ℕ) (is_first : Bool) (line text : List ℕ) → text ≡ line → IsBodyOf d is_first n line (body_of n (outcome_of d is_first text))
kept-says d n is_first line text same =
    (outcome_of d is_first line, outcome_reads d is_first line, ap (λ l. body_of n (outcome_of d is_first l)) same)

-- and so the outcome that is read of it
pub kept-reads : (d n : ℕ) (is_first : Bool) (line text : List ℕ) (outcome : LineOutcome) → line ≡ text → ReadsLine d is_first line outcome →
    body_of n outcome ≡ body_of n (outcome_of d is_first text)
kept-reads d n is_first line text outcome same has =
    ap (body_of n) (sym (outcome_is d is_first line outcome has) ∙ ap (outcome_of d is_first) same)

-- a line that is kept is an item
pub kept_outside : (d : ℕ) (is_first : Bool) (n : ℕ) (line : List ℕ) (kind : LineKind) (body : Body) → kind ≡ line_kind line → is_blank kind line ≡ false →
    word_waits (line_word line) ≡ true → IsBodyOf d is_first n line body → ReadsOutside d is_first n line (out.Is (record { line = n; body = body }))
kept_outside d is_first n line kind body k blank h is =
    let other : is_group kind ≡ false = ap is_group k ∙ waits-kind line h in
    let matches : Matches false is.0 = rw (waits-kind line h) at (kind-matches d is_first line is.0 is.1) in
    let same : outside_of n (is_group kind) is.0 ≡ out.Is (record { line = n; body = body }) =
    ap (λ g. outside_of n g is.0) other ∙ outside-other n is.0 matches ∙ ap (λ x. out.Is (record { line = n; body = x })) (sym is.2) in
    let P : Outside → Type 0 = λ x. ReadsOutside d is_first n line x in
    subst P same (other_outside d is_first n line kind is.0 k blank is.1)

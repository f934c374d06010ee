-- A line has one outcome, outside a block and inside one.
use Rattle.std.proofs.Common.{◌≡◌, ℕ, Bool, List, refl, ap, sym, ◌∙◌, length, MatchBool}
use Rattle.std.specs.Prelude.{nat_lt}
use Rattle.fr_syntax.specs.Grammar.{line_tokens}
use Rattle.fr_syntax.specs.Recursions.{recursion_tokens, recursion_value}
use Rattle.fr_syntax.specs.LineValues.{line_read}
use Rattle.fr_syntax.specs.Lines.{Located, lexemes, code_of, tokens_of, bad_place, place_of, passes_nesting}
use Rattle.fr_syntax.specs.LineSteps as line_steps
use Rattle.fr_syntax.specs.RecursionSteps as recursion_steps
use Rattle.fr_syntax.proofs.Runs.{one_tree}
use Rattle.fr_syntax.proofs.FaultLaws.{one_fault}
use Rattle.fr_syntax.proofs.LineLaws.{exact_lines}
use Rattle.fr_syntax.proofs.RecursionLaws.{exact_recursions}
use Rattle.fr_syntax.proofs.LineValueLaws as line_values
use Rattle.fr_syntax.proofs.RecursionValueLaws as recursion_values
use Rattle.fr_script.specs.declared.fault.LineFault.TheVariants as f
use Rattle.fr_script.specs.declared.outcome.LineOutcome.{LineOutcome}
use Rattle.fr_script.specs.declared.inner.InnerOutcome.{InnerOutcome}
use Rattle.fr_script.specs.Reading as r
use Rattle.fr_script.specs.Inner as i
use Rattle.fr_script.proofs.Choices.{one_bool, one_option, some_bool, some_option, both}
use Rattle.fr_script.proofs.ReadingLaws as reading
use Rattle.fr_script.proofs.InnerLaws as inner

one_parse : (d : ℕ) (is_first : Bool) (tokens : List Located) (a b : LineOutcome) → r.Parses d is_first tokens a → r.Parses d is_first tokens b → a ≡ b
one_parse d is_first tokens _ _ (r.derived s h) (r.derived t k) = ap (λ line. r.checked is_first (line_read d line)) (one_tree exact_lines s t (sym h ∙ k))
one_parse d is_first tokens _ _ (r.derived s h) (r.syntax k g) = absurd (g.derived s h)
one_parse d is_first tokens _ _ (r.syntax j g) (r.derived s h) = absurd (g.derived s h)
one_parse d is_first tokens _ _ (r.syntax j g) (r.syntax k h) = ap (λ n. r.faulty (f.Syntax (place_of tokens n))) (one_fault line_tokens (lexemes tokens) j k g h)

-- a line outside a block has one outcome
pub one_line : (d : ℕ) (is_first : Bool) (line : List ℕ) (a b : LineOutcome) → r.ReadsLine d is_first line a → r.ReadsLine d is_first line b → a ≡ b
one_line d is_first line a b =
    let tokens = tokens_of (code_of line) in
    let parses : LineOutcome → Type 0 = r.Parses d is_first tokens in
    let nests : LineOutcome → Type 0 = λ o. MatchBool (passes_nesting 0 0 (lexemes tokens)) (o ≡ r.faulty f.NestingPassed) (parses o) in
    let text : LineOutcome → Type 0 = r.ReadsText d is_first tokens in
    let short : LineOutcome → Type 0 = λ o. MatchBool (nat_lt 4096 (length line)) (o ≡ r.faulty f.LineTooLong) (text o) in
    one_option (bad_place (code_of line)) short (λ o place. o ≡ r.faulty (f.BadByte place)) a b
    (one_bool (nat_lt 4096 (length line)) (λ o. o ≡ r.faulty f.LineTooLong) text a b both
    (one_bool (r.begins_statement (lexemes tokens)) nests (λ o. o ≡ r.faulty f.UnknownStatement) a b
    (one_bool (passes_nesting 0 0 (lexemes tokens)) (λ o. o ≡ r.faulty f.NestingPassed) parses a b both (one_parse d is_first tokens a b))
    both))
    (λ n. both)

-- a line outside a block has an outcome
pub some_line : (d : ℕ) (is_first : Bool) (line : List ℕ) → (o : LineOutcome) × r.ReadsLine d is_first line o
some_line d is_first line =
    let tokens = tokens_of (code_of line) in
    let parses : LineOutcome → Type 0 = r.Parses d is_first tokens in
    let nests : LineOutcome → Type 0 = λ o. MatchBool (passes_nesting 0 0 (lexemes tokens)) (o ≡ r.faulty f.NestingPassed) (parses o) in
    let text : LineOutcome → Type 0 = r.ReadsText d is_first tokens in
    let short : LineOutcome → Type 0 = λ o. MatchBool (nat_lt 4096 (length line)) (o ≡ r.faulty f.LineTooLong) (text o) in
    some_option (bad_place (code_of line)) short (λ o place. o ≡ r.faulty (f.BadByte place))
    (some_bool (nat_lt 4096 (length line)) (λ o. o ≡ r.faulty f.LineTooLong) text (r.faulty f.LineTooLong, refl)
    (some_bool (r.begins_statement (lexemes tokens)) nests (λ o. o ≡ r.faulty f.UnknownStatement)
    (some_bool (passes_nesting 0 0 (lexemes tokens)) (λ o. o ≡ r.faulty f.NestingPassed) parses (r.faulty f.NestingPassed, refl)
    (_, reading.parses d is_first tokens (line_steps.reading d (lexemes tokens)) (line_values.reads d (lexemes tokens))))
    (r.faulty f.UnknownStatement, refl)))
    (λ n. (r.faulty (f.BadByte n), refl))

one_inner_parse : (d n : ℕ) (tokens : List Located) (a b : InnerOutcome) → i.Parses d n tokens a → i.Parses d n tokens b → a ≡ b
one_inner_parse d n tokens _ _ (i.derived s h) (i.derived t k) = ap (λ tree. i.checked d n (recursion_value d tree)) (one_tree exact_recursions s t (sym h ∙ k))
one_inner_parse d n tokens _ _ (i.derived s h) (i.syntax k g) = absurd (g.derived s h)
one_inner_parse d n tokens _ _ (i.syntax j g) (i.derived s h) = absurd (g.derived s h)
one_inner_parse d n tokens _ _ (i.syntax j g) (i.syntax k h) = ap (λ m. i.faulty (f.Syntax (place_of tokens m))) (one_fault recursion_tokens (lexemes tokens) j k g h)

-- a line inside a block has one outcome
pub one_inner : (d n : ℕ) (line : List ℕ) (a b : InnerOutcome) → i.ReadsInner d n line a → i.ReadsInner d n line b → a ≡ b
one_inner d n line a b =
    let tokens = tokens_of (code_of line) in
    let parses : InnerOutcome → Type 0 = i.Parses d n tokens in
    let text : InnerOutcome → Type 0 = i.ReadsText d n tokens in
    let short : InnerOutcome → Type 0 = λ o. MatchBool (nat_lt 4096 (length line)) (o ≡ i.faulty f.LineTooLong) (text o) in
    one_option (bad_place (code_of line)) short (λ o place. o ≡ i.faulty (f.BadByte place)) a b
    (one_bool (nat_lt 4096 (length line)) (λ o. o ≡ i.faulty f.LineTooLong) text a b both
    (one_bool (passes_nesting 0 0 (lexemes tokens)) (λ o. o ≡ i.faulty f.NestingPassed) parses a b both (one_inner_parse d n tokens a b)))
    (λ n. both)

-- a line inside a block has an outcome
pub some_inner : (d n : ℕ) (line : List ℕ) → (o : InnerOutcome) × i.ReadsInner d n line o
some_inner d n line =
    let tokens = tokens_of (code_of line) in
    let parses : InnerOutcome → Type 0 = i.Parses d n tokens in
    let text : InnerOutcome → Type 0 = i.ReadsText d n tokens in
    let short : InnerOutcome → Type 0 = λ o. MatchBool (nat_lt 4096 (length line)) (o ≡ i.faulty f.LineTooLong) (text o) in
    some_option (bad_place (code_of line)) short (λ o place. o ≡ i.faulty (f.BadByte place))
    (some_bool (nat_lt 4096 (length line)) (λ o. o ≡ i.faulty f.LineTooLong) text (i.faulty f.LineTooLong, refl)
    (some_bool (passes_nesting 0 0 (lexemes tokens)) (λ o. o ≡ i.faulty f.NestingPassed) parses (i.faulty f.NestingPassed, refl)
    (_, inner.parses d n tokens (recursion_steps.reading d (lexemes tokens)) (recursion_values.reads d (lexemes tokens)))))
    (λ m. (i.faulty (f.BadByte m), refl))

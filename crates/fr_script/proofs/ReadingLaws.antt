-- What the tokens of a line decide.
use Rattle.std.proofs.Common.{◌≡◌, ℕ, Bool, true, false, List, [], ◌∷◌, refl, ap, sym, ◌∙◌, map, subst, MatchBool}
use Rattle.fr_syntax.specs.declared.token.Placed.{Placed}
use Rattle.fr_script.specs.declared.fault.LineFault.TheVariants as f
use Rattle.fr_syntax.specs.declared.line.LineReading.{LineReading}
use Rattle.fr_syntax.specs.declared.line.LineReading.TheVariants as r
use Rattle.fr_script.specs.declared.outcome.LineOutcome.{LineOutcome}
use Rattle.fr_syntax.specs.Tokens.{Lexeme}
use Rattle.fr_syntax.specs.Grammar.{LineTree, line_tokens}
use Rattle.fr_syntax.specs.Lines.{Located, lexemes, lexeme, located, passes_nesting}
use Rattle.fr_syntax.specs.LineValues.{line_read, Reads}
use Rattle.fr_script.specs.Reading.{begins_statement, faulty, checked, Parses, derived, syntax, ReadsText}
use Rattle.fr_script.specs.Keeping.{tokens_outcome}

pub lexemes-located : (tokens : List Placed) → map lexeme tokens ≡ lexemes (map located tokens)
lexemes-located [] = refl
lexemes-located (t ∷ ts) = ap (λ l. lexeme t ∷ l) (lexemes-located ts)

parses_whole : (d : ℕ) (is_first : Bool) (tokens : List Located) (line : LineTree) (read : _) → read ≡ line_read d line →
    lexemes tokens ≡ line_tokens line → Parses d is_first tokens (checked is_first read)
parses_whole d is_first tokens line read e h =
    let P : LineOutcome → Type 0 = λ o. Parses d is_first tokens o in
    subst P (ap (checked is_first) (sym e)) (derived line h)

pub parses : (d : ℕ) (is_first : Bool) (tokens : List Located) (read : LineReading) → Reads d (lexemes tokens) read → Parses d is_first tokens (tokens_outcome is_first tokens read)
parses d is_first tokens (r.Whole read) h = parses_whole d is_first tokens h.0 read h.2 h.1
parses d is_first tokens (r.Syntax k) h = syntax k h

judged : (d : ℕ) (is_first : Bool) (tokens : List Placed) (outcome : LineOutcome) (begins nests : Bool) →
    begins_statement (map lexeme tokens) ≡ begins → passes_nesting 0 0 (map lexeme tokens) ≡ nests →
    MatchBool begins (MatchBool nests (outcome ≡ faulty f.NestingPassed) (Parses d is_first (map located tokens) outcome)) (outcome ≡ faulty f.UnknownStatement) →
    ReadsText d is_first (map located tokens) outcome
judged d is_first tokens outcome begins nests h k facts =
    let same = lexemes-located tokens in
    let g : begins_statement (lexemes (map located tokens)) ≡ begins = ap begins_statement (sym same) ∙ h in
    let j : passes_nesting 0 0 (lexemes (map located tokens)) ≡ nests = ap (passes_nesting 0 0) (sym same) ∙ k in
    rw (g, j) facts

pub unknown : (d : ℕ) (is_first : Bool) (tokens : List Placed) → begins_statement (map lexeme tokens) ≡ false →
    ReadsText d is_first (map located tokens) (faulty f.UnknownStatement)
unknown d is_first tokens h = judged d is_first tokens (faulty f.UnknownStatement) false (passes_nesting 0 0 (map lexeme tokens)) h refl refl

pub nested : (d : ℕ) (is_first : Bool) (tokens : List Placed) → begins_statement (map lexeme tokens) ≡ true → passes_nesting 0 0 (map lexeme tokens) ≡ true →
    ReadsText d is_first (map located tokens) (faulty f.NestingPassed)
nested d is_first tokens h k = judged d is_first tokens (faulty f.NestingPassed) true true h k refl

pub parsed : (d : ℕ) (is_first : Bool) (tokens : List Placed) (read : LineReading) → begins_statement (map lexeme tokens) ≡ true →
    passes_nesting 0 0 (map lexeme tokens) ≡ false → Reads d (map lexeme tokens) read → ReadsText d is_first (map located tokens) (tokens_outcome is_first (map located tokens) read)
parsed d is_first tokens read h k told =
    let P : List Lexeme → Type 0 = λ l. Reads d l read in
    judged d is_first tokens (tokens_outcome is_first (map located tokens) read) true false h k
    (parses d is_first (map located tokens) read (subst P (lexemes-located tokens) told))

pub lexemes-same : (tokens : List Placed) (found : List Located) → map located tokens ≡ found → map lexeme tokens ≡ lexemes found
lexemes-same tokens found h = lexemes-located tokens ∙ ap lexemes h

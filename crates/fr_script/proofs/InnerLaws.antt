-- What the tokens of a line inside a block decide.
use Rattle.std.proofs.Common.{◌≡◌, ℕ, Bool, true, false, List, refl, ap, sym, ◌∙◌, map, subst, MatchBool}
use Rattle.fr_syntax.specs.declared.token.Placed.{Placed}
use Rattle.fr_script.specs.declared.fault.LineFault.TheVariants as f
use Rattle.fr_syntax.specs.declared.recursion.RecursionReading.{RecursionReading}
use Rattle.fr_syntax.specs.declared.recursion.RecursionReading.TheVariants as r
use Rattle.fr_script.specs.declared.inner.InnerOutcome.{InnerOutcome}
use Rattle.fr_syntax.specs.Tokens.{Lexeme}
use Rattle.fr_syntax.specs.Recursions.{RecursionTree, recursion_tokens, recursion_value}
use Rattle.fr_syntax.specs.Lines.{Located, lexemes, lexeme, located, place_of, passes_nesting}
use Rattle.fr_syntax.specs.RecursionFaults.{ReadsRecursion}
use Rattle.fr_script.specs.Inner.{faulty, checked, Parses, derived, syntax, ReadsText}
use Rattle.fr_script.proofs.ReadingLaws.{lexemes-located}

abbrev pub outcome_of : ℕ → ℕ → List Located → RecursionReading → InnerOutcome
outcome_of d n tokens (r.Whole line) = checked d n line
outcome_of d n tokens (r.Syntax k) = faulty (f.Syntax (place_of tokens k))

parses_whole : (d n : ℕ) (tokens : List Located) (tree : RecursionTree) (line : _) → line ≡ recursion_value d tree →
    lexemes tokens ≡ recursion_tokens tree → Parses d n tokens (checked d n line)
parses_whole d n tokens tree line e h =
    let P : InnerOutcome → Type 0 = λ o. Parses d n tokens o in
    subst P (ap (checked d n) (sym e)) (derived tree h)

pub parses : (d n : ℕ) (tokens : List Located) (read : RecursionReading) → ReadsRecursion d (lexemes tokens) read → Parses d n tokens (outcome_of d n tokens read)
parses d n tokens (r.Whole line) h = parses_whole d n tokens h.0 line h.2 h.1
parses d n tokens (r.Syntax k) h = syntax k h

judged : (d n : ℕ) (tokens : List Placed) (outcome : InnerOutcome) (nests : Bool) → passes_nesting 0 0 (map lexeme tokens) ≡ nests →
    MatchBool nests (outcome ≡ faulty f.NestingPassed) (Parses d n (map located tokens) outcome) → ReadsText d n (map located tokens) outcome
judged d n tokens outcome nests k facts =
    let j : passes_nesting 0 0 (lexemes (map located tokens)) ≡ nests = ap (passes_nesting 0 0) (sym (lexemes-located tokens)) ∙ k in
    rw j facts

pub nested : (d n : ℕ) (tokens : List Placed) → passes_nesting 0 0 (map lexeme tokens) ≡ true → ReadsText d n (map located tokens) (faulty f.NestingPassed)
nested d n tokens k = judged d n tokens (faulty f.NestingPassed) true k refl

pub parsed : (d n : ℕ) (tokens : List Placed) (read : RecursionReading) → passes_nesting 0 0 (map lexeme tokens) ≡ false →
    ReadsRecursion d (map lexeme tokens) read → ReadsText d n (map located tokens) (outcome_of d n (map located tokens) read)
parsed d n tokens read k told =
    let P : List Lexeme → Type 0 = λ l. ReadsRecursion d l read in
    judged d n tokens (outcome_of d n (map located tokens) read) false k (parses d n (map located tokens) read (subst P (lexemes-located tokens) told))

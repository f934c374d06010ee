-- A line inside a block: what it says, or its first fault in the order of the search.
use Rattle.std.specs.Prelude.{ℕ, ◌≡◌, Bool, true, false, not, ◌==◌, nat_lt, if◌then◌else◌, List, [], length, replicate, Option, Some, None, MatchBool, MatchOption}
use Rattle.fr_model.specs.Words.{IsWord}
use Rattle.fr_syntax.specs.declared.statement.SecName.{SecName}
use Rattle.fr_syntax.specs.declared.statement.Recursion.{Recursion}
use Rattle.fr_syntax.specs.declared.recursion.RecursionLine.{RecursionLine}
use Rattle.fr_syntax.specs.Recursions.{RecursionTree, recursion_tokens, recursion_value}
use Rattle.fr_syntax.specs.Faults.{IsFaultAt}
use Rattle.fr_syntax.specs.Lines.{Located, lexemes, code_of, tokens_of, bad_place, place_of, passes_nesting}
use Rattle.fr_script.specs.declared.fault.LineFault.{LineFault}
use Rattle.fr_script.specs.declared.fault.LineFault.TheVariants as f
use Rattle.fr_script.specs.declared.inner.InnerOutcome.{InnerOutcome}
use Rattle.fr_script.specs.declared.inner.InnerOutcome.TheVariants as o
use Rattle.fr_script.specs.Cycles.{cycles_letters, cycles_permutation, has_repeat}

-- whether there is a section for each letter
abbrev pub arity_is : ℕ → Option (List (List SecName)) → Bool
arity_is d (Some sections) = length sections == d
arity_is d None = true

-- the same of the sections of a line
abbrev pub has_arity : ℕ → RecursionLine → Bool
has_arity d line = arity_is d line.sections

-- the sections, which are all 1 where they are not written
abbrev pub sections_or : ℕ → Option (List (List SecName)) → List (List SecName)
sections_or d (Some sections) = sections
sections_or d None = replicate d []

-- what the line n says
abbrev pub recursion : ℕ → ℕ → RecursionLine → Recursion
recursion d n line = record { line = n; name = line.name; perm = cycles_permutation d line.cycles; sections = sections_or d line.sections }

-- where no number was refused, the cycles have letters alone
abbrev pub HasLetters : ℕ → RecursionLine → Type 0
HasLetters d line = line.not_a_letter ≡ false → IsWord d (cycles_letters line.cycles)

-- a line with this fault
abbrev pub faulty : LineFault → InnerOutcome
faulty fault = o.Faulty fault

-- the line n of the grammar: the faults of its numbers, its sections and its cycles
abbrev pub checked : ℕ → ℕ → RecursionLine → InnerOutcome
checked d n line =
    if line.not_a_letter then faulty f.NotALetter else (if not (has_arity d line) then faulty f.WrongArity else
    (if has_repeat (cycles_letters line.cycles) then faulty f.NotPermutation else o.Says (recursion d n line)))

-- the line of the grammar that the tokens are, or the place where they stop to begin one
pub data Parses (d n : ℕ) (tokens : List Located) : InnerOutcome → Type 0 where
  derived : (tree : RecursionTree) → lexemes tokens ≡ recursion_tokens tree → Parses d n tokens (checked d n (recursion_value d tree))
  syntax : (k : ℕ) → IsFaultAt recursion_tokens (lexemes tokens) k → Parses d n tokens (faulty (f.Syntax (place_of tokens k)))

-- the faults that the tokens of a line decide
abbrev pub ReadsText : ℕ → ℕ → List Located → InnerOutcome → Type 0
ReadsText d n tokens outcome = MatchBool (passes_nesting 0 0 (lexemes tokens)) (outcome ≡ faulty f.NestingPassed) (Parses d n tokens outcome)

-- the faults of bytes come first
abbrev pub ReadsInner : ℕ → ℕ → List ℕ → InnerOutcome → Type 0
ReadsInner d n line outcome =
    MatchOption (bad_place (code_of line))
    (MatchBool (nat_lt 4096 (length line)) (outcome ≡ faulty f.LineTooLong) (ReadsText d n (tokens_of (code_of line)) outcome))
    (λ place. outcome ≡ faulty (f.BadByte place))

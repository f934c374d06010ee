-- How the tokens of a line inside a block are read.
use Rattle.std.specs.Prelude.{ℕ, ◌≡◌, List}
use Rattle.fr_syntax.specs.declared.recursion.RecursionReading.{RecursionReading}
use Rattle.fr_syntax.specs.declared.recursion.RecursionReading.TheVariants as r
use Rattle.fr_syntax.specs.Tokens.{Lexeme}
use Rattle.fr_syntax.specs.Recursions.{RecursionTree, recursion_tokens, recursion_value}
use Rattle.fr_syntax.specs.Faults.{IsFaultAt}

-- The tokens of a line are read as what it says, and others as their first fault.
abbrev pub ReadsRecursion : ℕ → List Lexeme → RecursionReading → Type 0
ReadsRecursion d tokens (r.Whole line) = (tree : RecursionTree) × (tokens ≡ recursion_tokens tree) × (line ≡ recursion_value d tree)
ReadsRecursion d tokens (r.Syntax k) = IsFaultAt recursion_tokens tokens k

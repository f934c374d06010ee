-- What fits an alphabet, line by line.
use Rattle.std.proofs.Common.{ℕ, ◌+◌, ◌≤◌, List, [], ◌∷◌, length, arith}
use Rattle.std.specs.List.{All}
use Rattle.std.proofs.lemmas.List.Elements.{All-nil, All-cons}
use Rattle.fr_syntax.specs.declared.statement.Recursion.{Recursion}
use Rattle.fr_syntax.specs.Fits.{FitsRecursion, FitsRecursions}

-- each line of a block fits
pub lines_fit : (d low high : ℕ) (rs : List Recursion) → FitsRecursions d low high rs → All (FitsRecursion d) rs
lines_fit d low high [] h = All-nil (FitsRecursion d)
lines_fit d low high (r ∷ rs) h = All-cons (FitsRecursion d) r rs h.1 (lines_fit d r.line high rs h.2)

-- a block has at most as many lines as stand below its first
pub lines_few : (d low high : ℕ) (rs : List Recursion) → FitsRecursions d low high rs → length rs + low ≤ high
lines_few d low high [] h = omega (arith, h)
lines_few d low high (r ∷ rs) h = let rest = lines_few d r.line high rs h.2 in omega (arith, h.0, rest)

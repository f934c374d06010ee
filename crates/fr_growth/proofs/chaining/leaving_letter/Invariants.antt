use Rattle.std.proofs.Common.{ℕ}
use Rattle.fr_growth.specs.Chains.{IsLeavingLetter}
use Rattle.fr_growth.proofs.chaining.leaving_letter.Given as goal

abbrev pub invariant-loop-x : goal.invariant-loop-x
invariant-loop-x l = (y : ℕ) → ¬ IsLeavingLetter l.x l.m.rows l.numbers l.levels l.s l.level y

use Rattle.std.proofs.Common.{ℕ}
use Rattle.fr_growth.specs.Chains.{IsStayingLetter}
use Rattle.fr_growth.proofs.chaining.staying_letter.Given as goal

abbrev pub invariant-loop-x : goal.invariant-loop-x
invariant-loop-x l = (y : ℕ) → ¬ IsStayingLetter l.x l.m.rows l.numbers l.s y

use Rattle.std.proofs.Common.{length}
use Rattle.fr_growth.specs.Doubling.{AreDoublingNumbers}
use Rattle.fr_growth.proofs.marking.doubling_numbers.Given as goal

abbrev pub invariant-loop-s : goal.invariant-loop-s
invariant-loop-s l = AreDoublingNumbers (length l.numbers) l.s l.numbers l.returns l.marks.items

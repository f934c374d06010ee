use Rattle.fr_minimal.proofs.ChoiceLaws.{IsChoicePart}
use Rattle.fr_nucleus.proofs.numbering.first_rows.Given as goal

abbrev pub invariant-loop-s : goal.invariant-loop-s
invariant-loop-s l = IsChoicePart l.of l.firsts.items l.s

use Rattle.fr_nucleus.specs.Coding.{AreListed}
use Rattle.fr_nucleus.proofs.coding.list_codes.Given as goal

abbrev pub invariant-loop-s : goal.invariant-loop-s
invariant-loop-s l = AreListed l.m.alphabet l.m.rows l.listed.items l.s

use Rattle.std.proofs.Common.{◌-◌}
use Rattle.fr_block.specs.Closures.{AreNameWords}
use Rattle.fr_block.proofs.words.Words.of_names.Given as goal

abbrev pub invariant-loop-name : goal.invariant-loop-name
invariant-loop-name l = AreNameWords l.first (l.name - l.first) l.words

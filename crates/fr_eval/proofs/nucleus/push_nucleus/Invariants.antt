use Rattle.std.proofs.Common.{◌≡◌, ◌++◌, ◌∷◌, [], take, length}
use Rattle.std.specs.Prelude.{codes}
use Rattle.std.specs.Fmt.{decimal}
use Rattle.fr_plain.specs.Answers.{elements_text}
use Rattle.fr_eval.specs.Generators.{automata_of}
use Rattle.fr_eval.proofs.nucleus.push_nucleus.Given as goal

abbrev pub invariant-loop-i : goal.invariant-loop-i
invariant-loop-i l = record {
  text : l.out.items ≡ ((((l.fn.out.items ++ codes "nucleus ") ++ decimal (length l.found.members)) ++ codes " depth ") ++ decimal l.found.depth ++ 10 ∷ []) ++ elements_text 1 (automata_of (take l.i l.found.members));
}

use Rattle.fr_classes.proofs.ChoiceLaws.{IsChoicePart}
use Rattle.fr_classes.proofs.choices.choice.Given as goal

abbrev pub invariant-loop-s : goal.invariant-loop-s
invariant-loop-s l = IsChoicePart l.of l.chosen.items l.s

use Rattle.fr_machine.specs.Rows.{IsMachine}
use Rattle.fr_classes.proofs.PartitionLaws.{AreClasses-guessed}
use Rattle.fr_classes.proofs.partition.classes.Goals as goal

pub refined_classes-requires : goal.refined_classes-requires
refined_classes-requires c = record { machine = (c.args.m.now.alphabet, rw c.rows-rows.ensures.value c.rows-rows.ensures.valid); guess = c.in_ok-guess.ensures.guess }

pub returns-then-branch : goal.returns-then-branch
returns-then-branch c =
    let rows = c.rows-rows.result.now in
    let m : IsMachine c.args.m.now.alphabet rows = rw c.rows-rows.ensures.value c.rows-rows.ensures.valid in
    let guess = c.in_ok-guess.guess.numbering in
    rw (← c.rows-rows.ensures.value) (AreClasses-guessed c.args.m.now.alphabet rows m guess.of.items guess.count c.in_ok-guess.ensures.guess (c.in_ok-is_stable.ensures c.if-branch.true))

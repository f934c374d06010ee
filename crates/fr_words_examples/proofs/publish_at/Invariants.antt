use Rattle.std.proofs.Common.{◌<◌}
use Rattle.fr_words.specs.Lawful.{IsLawful}
use Rattle.fr_words.specs.Hands.{note, IsOf}
use Rattle.fr_words_examples.specs.Filling.{HasFilled, KnowsHandles, Adds}
use Rattle.fr_words_examples.proofs.publish_at.Given as goal

abbrev pub invariant-loop-row : goal.invariant-loop-row
invariant-loop-row l = record {
  of : IsOf l.words l.hand;
  filled : HasFilled l.words.plan (note l.hand) l.machine.start l.machine.rows.now;
  handles : KnowsHandles l.words.plan (note l.hand) l.machine.start l.machine.rows.now l.row;
  adds : Adds l.words.plan l.machine.start l.machine.rows.now (note l.fn.hand) (note l.hand);
  lawful : 0 < l.row → IsLawful (note l.hand);
}

use Rattle.std.proofs.Common.{◌+◌}
use Rattle.fr_layout.specs.Places.{field_at}
use Rattle.fr_words.specs.Hands.{note, IsOf}
use Rattle.fr_words_examples.specs.Filling.{IsFilling, Adds}
use Rattle.fr_words_examples.proofs.fill_rows.Given as goal

abbrev pub invariant-loop-row : goal.invariant-loop-row
invariant-loop-row l = record {
  of : IsOf l.words l.hand;
  filling : IsFilling l.words.plan (note l.hand) l.machine.start l.machine.rows.now (field_at l.words.plan (l.machine.start + l.row) 0);
  adds : Adds l.words.plan l.machine.start l.machine.rows.now (note l.fn.hand) (note l.hand);
}

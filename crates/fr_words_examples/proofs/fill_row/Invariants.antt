use Rattle.std.proofs.Common.{◌+◌}
use Rattle.fr_layout.specs.Places.{field_at}
use Rattle.fr_words.specs.Hands.{note, IsOf}
use Rattle.fr_words_examples.specs.Filling.{IsFilling, Adds}
use Rattle.fr_words_examples.proofs.fill_row.Given as goal

abbrev pub invariant-loop-field : goal.invariant-loop-field
invariant-loop-field l = record {
  of : IsOf l.words l.hand;
  filling : IsFilling l.words.plan (note l.hand) l.start l.rows (field_at l.words.plan (l.start + l.row) l.field);
  adds : Adds l.words.plan l.start l.rows (note l.fn.hand) (note l.hand);
}

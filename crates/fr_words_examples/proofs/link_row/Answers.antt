use Rattle.std.proofs.Common.{◌+◌}
use Rattle.fr_words_examples.specs.Filling.{block_at}
use Rattle.fr_words_examples.proofs.Fillings.{may_link}
use Rattle.fr_words_examples.proofs.link_row.Goals as goal

pub set_link-requires-clause-asks : goal.set_link-requires-clause-asks
set_link-requires-clause-asks c =
    let p = c.args.words.now.plan in
    let start = c.args.machine.start in
    let rows = c.args.machine.rows.now in
    (block_at start rows, start + c.args.row, c.pack.ensures.value, may_link p start rows _ c.args.row c.args.first c.requires.filled c.requires.row c.requires.few.0 c.requires.place c.requires.entered)

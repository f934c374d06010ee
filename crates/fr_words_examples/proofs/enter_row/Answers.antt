use Rattle.std.proofs.Common.{◌+◌, rules}
use Rattle.fr_words_examples.specs.Filling.{block_at}
use Rattle.fr_words_examples.proofs.Fillings.{may_enter}
use Rattle.fr_words_examples.proofs.enter_row.Goals as goal

pub enter-requires-clause-asks : goal.enter-requires-clause-asks
enter-requires-clause-asks c =
    let p = c.args.words.now.plan in
    let start = c.args.machine.start in
    let rows = c.args.machine.rows.now in
    (block_at start rows, start + c.args.row, c.pack.ensures.value, may_enter p start rows c.requires.machine.0 _ c.args.row c.args.code.now c.args.first c.requires.filled c.requires.row c.requires.code c.requires.home (search rules))

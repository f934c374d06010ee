use Rattle.std.proofs.Common.{rules}
use Rattle.fr_words.proofs.Told.{cell_pack_at}
use Rattle.fr_words.proofs.Calls.{meets_a_cell}
use Rattle.fr_words.proofs.hand.Hand.cell.Goals as goal

pub load-requires : goal.load-requires
load-requires c = (search rules, search rules, meets_a_cell c.args.words.now.table.shared.key c.args.words.now.plan c.args.words.now.planned c.args.words.now.table.shared.table_id.slots c.cell_word-word.result c.args.self.now.seat.id c.args.self.now.seat.me.0 c.args.self.now.seat.me.1 c.args.self.now.live c.args.cell c.cell_word-word.ensures.value c.requires.place)

pub returns-clause-pack : goal.returns-clause-pack
returns-clause-pack c = cell_pack_at c.args.words.now.plan c.args.self.now.seat.me.0 c.requires.of.1 c.cell_word-word.result c.load.result c.load.ensures.2.1.0 c.args.cell c.cell_word-word.ensures.value c.requires.place

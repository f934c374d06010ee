use Rattle.std.proofs.Common.{rules}
use Rattle.fr_words.proofs.Told.{complete_field_at}
use Rattle.fr_words.proofs.Calls.{meets_field}
use Rattle.fr_words.proofs.hand.Hand.row_word.Goals as goal

pub load-requires : goal.load-requires
load-requires c = (search rules, search rules, meets_field c.args.words.now.table.shared.key c.args.words.now.plan c.args.words.now.planned c.args.words.now.table.shared.table_id.slots c.field_word-word.result c.args.self.now.seat.id c.args.self.now.seat.me.0 c.args.self.now.seat.me.1 c.args.self.now.live c.args.row c.args.field c.field_word-word.ensures.value c.requires.place.0 c.requires.place.1)

pub returns-clause-complete : goal.returns-clause-complete
returns-clause-complete c = complete_field_at c.args.words.now.plan c.args.self.now.seat.me.0 c.requires.of.1 c.field_word-word.result c.load.result c.load.ensures.2.1.0 c.args.row c.args.field c.field_word-word.ensures.value c.requires.place.0 c.requires.place.1

use Rattle.std.proofs.Common.{rules}
use Rattle.fr_words.proofs.Told.{link_pack_at}
use Rattle.fr_words.proofs.Calls.{meets_link}
use Rattle.fr_words.proofs.hand.Hand.link.Goals as goal

pub load-requires : goal.load-requires
load-requires c = (search rules, search rules, meets_link c.args.words.now.table.shared.key c.args.words.now.plan c.args.words.now.planned c.args.words.now.table.shared.table_id.slots c.link_word-word.result c.args.self.now.seat.id c.args.self.now.seat.me.0 c.args.self.now.seat.me.1 c.args.self.now.live c.args.row c.link_word-word.ensures.value c.requires.place)

pub returns-clause-pack : goal.returns-clause-pack
returns-clause-pack c = link_pack_at c.args.words.now.plan c.args.self.now.seat.me.0 c.requires.of.1 c.link_word-word.result c.load.result c.load.ensures.2.1.0 c.args.row c.link_word-word.ensures.value c.requires.place

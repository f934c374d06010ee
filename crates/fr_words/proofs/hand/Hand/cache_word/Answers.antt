use Rattle.std.proofs.Common.{rules, arith}
use Rattle.fr_words.proofs.Calls.{meets_a_product}
use Rattle.fr_words.proofs.hand.Hand.cache_word.Goals as goal

pub load-requires : goal.load-requires
load-requires c = (search rules, search rules, meets_a_product c.args.words.now.table.shared.key c.args.words.now.plan c.args.words.now.planned c.args.words.now.table.shared.table_id.slots c.cache_word-word.result c.args.self.now.seat.id c.args.self.now.seat.me.0 c.args.self.now.seat.me.1 c.args.self.now.live c.args.place c.cache_word-word.ensures.value (omega arith))

use Rattle.std.proofs.Common.{rules, arith}
use Rattle.fr_words.proofs.Calls.{swaps_at}
use Rattle.fr_words.proofs.hand.Hand.swap_cache.Goals as goal

pub swap-requires : goal.swap-requires
swap-requires c = (search rules, search rules, swaps_at c.args.words.now.table.shared.key c.args.words.now.plan c.args.words.now.planned c.args.words.now.table.shared.table_id.slots c.cache_word-word.result c.args.self.now.seat.id c.args.self.now.seat.me.0 c.args.self.now.seat.me.1 c.args.self.now.live c.args.place c.args.new c.cache_word-word.ensures.value (omega arith) c.requires.asks)

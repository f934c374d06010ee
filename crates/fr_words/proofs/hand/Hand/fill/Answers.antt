use Rattle.std.proofs.Common.{rules}
use Rattle.fr_words.proofs.Calls.{fills_at}
use Rattle.fr_words.proofs.hand.Hand.fill.Goals as goal

pub store-requires : goal.store-requires
store-requires c = let a = c.requires.asks in (search rules, search rules, fills_at c.args.words.now.table.shared.key c.args.words.now.plan c.args.words.now.planned c.args.words.now.table.shared.table_id.slots c.field_word-word.result c.args.self.now.seat.id c.args.self.now.seat.me.0 c.args.self.now.seat.me.1 c.args.self.now.live a.0 c.args.row c.args.field c.args.value c.field_word-word.ensures.value c.requires.place a.1)

use Rattle.std.proofs.Common.{rules, arith, ◌+◌}
use Rattle.fr_words.proofs.Calls.{claims_at}
use Rattle.fr_words.proofs.hand.Hand.claim.Goals as goal

pub compare_exchange-found-requires : goal.compare_exchange-found-requires
compare_exchange-found-requires c = (search rules, search rules, claims_at c.args.words.now.table.shared.key c.args.words.now.plan c.args.words.now.planned c.args.words.now.table.shared.table_id.slots 0 c.args.self.now.seat.id c.args.self.now.seat.me.0 c.args.self.now.seat.me.1 c.args.self.now.live c.args.seen (c.args.seen + c.args.asked) c.requires.finished (omega arith) (omega arith) (search rules))

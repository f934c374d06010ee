use Rattle.std.proofs.Common.{rules}
use Rattle.fr_words.proofs.Calls.{joins_at}
use Rattle.fr_words.proofs.hand.Hand.join.Goals as goal

pub join_seat-requires : goal.join_seat-requires
join_seat-requires c = (search rules, search rules, search rules, search rules, joins_at c.args.words.now.table.shared.key c.args.words.now.plan c.args.words.now.planned c.args.self.now.seat.id c.args.other.seat.id c.args.self.now.seat.me.0 c.args.other.seat.me.0 c.args.self.now.live c.requires.finished)

use Rattle.std.proofs.Common.{rules}
use Rattle.fr_words.proofs.Allowed.{look_allows}
use Rattle.fr_words.proofs.hand.Hand.look_claim.Goals as goal

pub load-requires : goal.load-requires
load-requires c = (search rules, search rules, look_allows c.args.words.now.table.shared.key c.args.words.now.table.shared.table_id.slots c.args.self.now.seat.id c.args.self.now.seat.me.0 c.args.self.now.seat.me.1 c.args.self.now.live)

use Rattle.std.proofs.Common.{rules}
use Rattle.fr_words.proofs.Allowed.{split_allows}
use Rattle.fr_words.proofs.hand.Hand.split.Goals as goal

pub split_seat-seat-requires : goal.split_seat-seat-requires
split_seat-seat-requires c = (search rules, search rules, split_allows c.args.words.now.table.shared.key c.args.self.now.seat.id c.args.self.now.seat.me.0 c.args.self.now.live)

use Rattle.std.proofs.Common.{◌≡◌}
use Rattle.fr_expr.specs.Tables.{names_in}
use Rattle.frcalc.proofs.FeedingLaws.{Feeding}
use Rattle.frcalc.proofs.feeding.feed_all.Given as goal

abbrev pub invariant-loop-item : goal.invariant-loop-item
invariant-loop-item l = record {
  items : l.item-items ≡ l.script.items;
  feeding : Feeding l.script l.limit l.item-index l.session.store (names_in l.session.env) l.replies.items l.charge;
}

use Rattle.std.proofs.Common.{◌≡◌, ◌<◌, length}
use Rattle.std.specs.List.{All}
use Rattle.fr_classes.proofs.members.Members.new.Given as goal

abbrev pub invariant-loop-row : goal.invariant-loop-row
invariant-loop-row l = record {
  next_count : length l.next.items ≡ l.row;
  nexts : All (λ s. s < l.count) l.next.items;
  before_count : length l.before.items ≡ l.row;
  befores : All (λ s. s < l.count) l.before.items;
}

use Rattle.std.proofs.Common.{◌≡◌, length, take, get_or}
use Rattle.std.specs.List.{All}
use Rattle.fr_classes.specs.Members.{IsMembers}
use Rattle.fr_classes.proofs.members.Members.follow.Given as goal

abbrev pub invariant-loop-row : goal.invariant-loop-row
invariant-loop-row l = record {
  members : IsMembers l.self;
  count : length l.self.of.items ≡ length l.fn.self.of.items;
  moved : All (λ s. get_or l.self.of.items s 0 ≡ get_or l.of s 0) (take l.row-index l.moved);
}

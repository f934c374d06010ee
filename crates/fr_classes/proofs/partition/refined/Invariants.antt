use Rattle.std.proofs.Common.{◌≡◌, ◌-◌, ◌+◌, length, min}
use Rattle.fr_classes.specs.Members.{IsMembers}
use Rattle.fr_classes.specs.Refinement.{IsRefining, IsQueued}
use Rattle.fr_classes.proofs.partition.refined.Given as goal

abbrev pub invariant-loop-partition : goal.invariant-loop-partition
invariant-loop-partition l = record {
  refining : IsRefining l.rows l.partition;
  queued : IsQueued l.partition l.partition.todo.items;
  members : IsMembers l.members;
  member_count : length l.members.of.items ≡ length l.rows;
}

-- a class more, or nothing left to do
abbrev pub decreases-loop-partition : goal.decreases-loop-partition
decreases-loop-partition l = (length l.rows - length l.partition.known.items) + min 1 (length l.partition.todo.items)

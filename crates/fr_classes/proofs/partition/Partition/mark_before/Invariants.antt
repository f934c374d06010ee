use Rattle.std.proofs.Common.{◌≡◌, ◌≤◌, ◌++◌, List, ℕ, [], length, get_or}
use Rattle.fr_classes.specs.Refinement.{IsSpread}
use Rattle.fr_classes.specs.Predecessors.{chain, lists_of}
use Rattle.fr_classes.proofs.partition.Partition.mark_before.Given as goal

-- the rows in front are dirty, and the others are left
abbrev pub invariant-loop-number : goal.invariant-loop-number
invariant-loop-number l = record {
  front : List ℕ;
  spread : IsSpread l.fn.self l.self front;
  whole : front ++ chain l.before.links.items (length l.before.links.items) l.number ≡ get_or (lists_of l.before) l.row [];
  most : l.number ≤ length l.before.links.items;
}

abbrev pub decreases-loop-number : goal.decreases-loop-number
decreases-loop-number l = l.number

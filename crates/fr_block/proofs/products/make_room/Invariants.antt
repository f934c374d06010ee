use Rattle.std.proofs.Common.{◌≡◌, ◌≤◌, ◌+◌, ◌-◌, length, take}
use Rattle.fr_block.proofs.products.make_room.Given as goal

abbrev pub invariant-loop-word : goal.invariant-loop-word
invariant-loop-word l = record {
  within : l.count ≤ length l.word.items;
  keeps : take l.count l.word.items ≡ take l.count l.fn.word.items;
}

abbrev pub decreases-loop-word : goal.decreases-loop-word
decreases-loop-word l = l.count + l.more - length l.word.items

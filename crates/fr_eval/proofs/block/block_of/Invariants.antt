use Rattle.std.proofs.Common.{◌≡◌, map, take}
use Rattle.fr_block.specs.Blocks.{system_of}
use Rattle.fr_eval.specs.NamePlaces.{placed_recursion}
use Rattle.fr_eval.proofs.block.block_of.Given as goal

abbrev pub invariant-loop-recursion : goal.invariant-loop-recursion
invariant-loop-recursion l = system_of l.wreaths.items ≡ map (placed_recursion l.places) (take l.recursion-index l.block)

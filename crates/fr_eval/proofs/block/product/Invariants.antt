use Rattle.std.proofs.Common.{◌≡◌, map, take}
use Rattle.fr_block.specs.Blocks.{product_of}
use Rattle.fr_eval.specs.NamePlaces.{placed}
use Rattle.fr_eval.proofs.block.product.Given as goal

abbrev pub invariant-loop-s : goal.invariant-loop-s
invariant-loop-s l = product_of l.factors.items ≡ map (placed l.places) (take l.s-index l.word)

use Rattle.std.proofs.Common.{◌≡◌, ◌+◌, ◌≤◌, ◌++◌, length, take}
use Rattle.fr_model.specs.FreeWords.{reduced}
use Rattle.fr_block.specs.Blocks.{product_of}
use Rattle.fr_block.proofs.products.append.Given as goal

abbrev pub invariant-loop-factor : goal.invariant-loop-factor
invariant-loop-factor l = record {
  long : length l.word ≡ length l.fn.word;
  most : l.end ≤ l.count + l.factor-index;
  value : product_of (take l.end l.word) ≡ reduced (product_of (take l.count l.fn.word) ++ product_of (take l.factor-index l.product));
}

use Rattle.std.proofs.Common.{◌≡◌, ◌+◌, ◌-◌, ◌≤◌, ◌++◌, drop, length, take}
use Rattle.fr_model.specs.FreeWords.{reduced}
use Rattle.fr_model.specs.Systems.{inverse_product}
use Rattle.fr_block.specs.Blocks.{product_of}
use Rattle.fr_block.proofs.products.append_inverse.Given as goal

abbrev pub invariant-loop-i : goal.invariant-loop-i
invariant-loop-i l = record {
  long : length l.word ≡ length l.fn.word;
  most : l.end ≤ l.count + l.i;
  value : product_of (take l.end l.word) ≡ reduced (product_of (take l.count l.fn.word) ++ inverse_product (product_of (drop (length l.product - l.i) l.product)));
}

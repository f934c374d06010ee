use Rattle.std.proofs.Common.{◌≡◌, ◌≤◌, length, take}
use Rattle.fr_model.specs.Words.{IsLetter}
use Rattle.fr_model.specs.FreeWords.{reduced}
use Rattle.fr_model.specs.Systems.{product_output, product_section}
use Rattle.fr_block.specs.Blocks.{product_of}
use Rattle.fr_block.proofs.products.section.Given as goal

abbrev pub invariant-loop-factor : goal.invariant-loop-factor
invariant-loop-factor l = record {
  within : l.count ≤ length l.word.items;
  value : product_of (take l.count l.word.items) ≡ reduced (product_section l.block.system (product_of (take l.factor-index l.product)) l.x);
  letter : l.letter ≡ product_output l.block.system (product_of (take l.factor-index l.product)) l.x;
  valid : IsLetter l.block.alphabet l.letter;
}

use Rattle.std.proofs.Common.{ℕ, [], suc, ◌≡◌, ◌<◌, length, get_or}
use Rattle.fr_model.specs.Systems.{product_output}
use Rattle.fr_block.specs.Closures.{IsRowPart}
use Rattle.fr_block.proofs.closure.row_of.Given as goal

abbrev pub invariant-loop-x : goal.invariant-loop-x
invariant-loop-x l = record {
  part : IsRowPart l.block.alphabet l.block.system l.fn.words l.words (get_or l.fn.words l.number []) l.next l.x;
  width : length l.images ≡ 8;
  images : (k : ℕ) → k < l.x → get_or l.images k 0 ≡ product_output l.block.system (get_or l.fn.words l.number []) (suc k);
}

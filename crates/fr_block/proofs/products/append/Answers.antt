use Rattle.std.proofs.Common.{◌++◌, take, refl, arith, ◌∙◌}
use Rattle.fr_block.specs.Blocks.{product_of}
use Rattle.fr_block.proofs.ReductionLaws.{append_start, append_more, IsReduced-is}
use Rattle.fr_block.proofs.products.append.Goals as goal

pub loop-factor-init : goal.loop-factor-init
loop-factor-init c = record { long = refl; most = omega arith; value = append_start (product_of (take c.args.count c.args.word.now)) c.requires.reduced }

pub push-end-requires-clause-reduced : goal.push-end-requires-clause-reduced
push-end-requires-clause-reduced c = IsReduced-is (product_of (take c.loop-factor.end c.loop-factor.word)) (product_of (take c.args.count c.args.word.now) ++ product_of (take c.loop-factor.factor-index c.args.product.now)) c.loop-factor.invariant.value

pub loop-factor-preserved : goal.loop-factor-preserved
loop-factor-preserved c = record {
  long = c.push-end.ensures.length ∙ c.loop-factor.invariant.long;
  most = omega (arith, c.push-end.ensures.most, c.loop-factor.invariant.most);
  value = append_more (product_of (take c.args.count c.args.word.now)) c.args.product.now c.loop-factor.factor-index _ (product_of (take c.loop-factor.end c.loop-factor.word)) (product_of (take c.push-end.result c.push-end.new.word)) c.loop-factor-test.true c.loop-factor.invariant.value c.push-end.ensures.value;
}

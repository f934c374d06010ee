use Rattle.std.proofs.Common.{◌++◌, ◌∷◌, [], ◌-◌, drop, length, take, refl, ap, ◌∙◌, arith, false}
use Rattle.fr_model.specs.Systems.{inverse_product}
use Rattle.fr_model.specs.FreeWords.{reduced}
use Rattle.fr_block.specs.declared.block.Factor.{Factor}
use Rattle.fr_block.specs.Blocks.{factor_of, product_of}
use Rattle.fr_block.proofs.ReductionLaws.{inverse_start, inverse_next, IsReduced-is}
use Rattle.fr_block.proofs.products.append_inverse.Goals as goal

pub loop-i-init : goal.loop-i-init
loop-i-init c = record { long = refl; most = omega arith; value = inverse_start (product_of (take c.args.count c.args.word.now)) c.args.product.now _ (omega arith) c.requires.reduced }

pub push-end-requires-clause-reduced : goal.push-end-requires-clause-reduced
push-end-requires-clause-reduced c = IsReduced-is (product_of (take c.loop-i.end c.loop-i.word)) (product_of (take c.args.count c.args.word.now) ++ inverse_product (product_of (drop (length c.args.product.now - c.loop-i.i) c.args.product.now))) c.loop-i.invariant.value

pub loop-i-preserved : goal.loop-i-preserved
loop-i-preserved c =
    let ms = c.args.product.now in
    let i = c.loop-i.i in
    record {
      long = c.push-end.ensures.length ∙ c.loop-i.invariant.long;
      most = omega (arith, c.push-end.ensures.most, c.loop-i.invariant.most);
      value = inverse_next (product_of (take c.args.count c.args.word.now)) ms i (length ms - 1 - i) (record { name = 0; inverse = false }) (product_of (take c.loop-i.end c.loop-i.word)) (product_of (take c.push-end.result c.push-end.new.word)) c.loop-i-test.true refl c.loop-i.invariant.value (c.push-end.ensures.value ∙ ap (λ (f : Factor). reduced (product_of (take c.loop-i.end c.loop-i.word) ++ factor_of f ∷ [])) c.inverted.ensures);
    }

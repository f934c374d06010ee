use Rattle.std.proofs.Common.{take, sym, ap, ◌∙◌}
use Rattle.fr_model.specs.Systems.{product_section, factor_output}
use Rattle.fr_block.specs.Blocks.{product_of}
use Rattle.fr_block.proofs.ReductionLaws.{known_at, section_step, output_more, IsReduced-is}
use Rattle.fr_block.proofs.products.section.Goals as goal

pub image-image-requires-clause-name : goal.image-image-requires-clause-name
image-image-requires-clause-name c = known_at c.args.block.now.system c.args.product.now c.loop-factor.factor-index _ c.requires.known c.loop-factor-test.true

pub append_section-requires-clause-reduced : goal.append_section-requires-clause-reduced
append_section-requires-clause-reduced c = IsReduced-is (product_of (take c.loop-factor.count c.loop-factor.word.items)) (product_section c.args.block.now.system (product_of (take c.loop-factor.factor-index c.args.product.now)) c.args.x) c.loop-factor.invariant.value

pub append_section-requires-clause-name : goal.append_section-requires-clause-name
append_section-requires-clause-name c = known_at c.args.block.now.system c.args.product.now c.loop-factor.factor-index _ c.requires.known c.loop-factor-test.true

pub loop-factor-preserved : goal.loop-factor-preserved
loop-factor-preserved c =
    let s = c.args.block.now.system in
    let ms = c.args.product.now in
    let i = c.loop-factor.factor-index in
    record {
      value = section_step s ms i _ c.args.x c.loop-factor.letter (product_of (take c.loop-factor.count c.loop-factor.word.items)) (product_of (take c.in_ok-count.count c.append_section.new.word.items)) c.loop-factor-test.true c.loop-factor.invariant.letter c.loop-factor.invariant.value c.in_ok-count.ensures.value;
      letter = c.image-image.ensures.value ∙ ap (factor_output s _) c.loop-factor.invariant.letter ∙ sym (output_more s ms i _ c.args.x c.loop-factor-test.true);
      valid = c.image-image.ensures.letter;
      within = c.in_ok-count.ensures.within;
    }

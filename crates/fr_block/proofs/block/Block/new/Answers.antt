use Rattle.std.proofs.Common.{refl, sym, ◌∙◌}
use Rattle.fr_block.proofs.BlockLaws.{block_test}
use Rattle.fr_block.proofs.block.Block.new.Goals as goal

pub returns-else-are_recursions-clause-accepts : goal.returns-else-are_recursions-clause-accepts
returns-else-are_recursions-clause-accepts c = (λ e. cc, λ h. sym c.if-are_recursions.false ∙ (block_test c.args.a c.letters.result c.args.wreaths.items c.deref.result.now c.are_recursions.result c.letters.ensures.value c.deref.ensures.value c.letters.ensures.least c.letters.ensures.most c.are_recursions.ensures).1 h)

pub invariant_of-result : goal.invariant_of-result
invariant_of-result c = (block_test c.args.a c.letters.result c.args.wreaths.items c.deref.result.now c.are_recursions.result c.letters.ensures.value c.deref.ensures.value c.letters.ensures.least c.letters.ensures.most c.are_recursions.ensures).0 c.if-are_recursions.true

pub returns-then-are_recursions-clause-accepts : goal.returns-then-are_recursions-clause-accepts
returns-then-are_recursions-clause-accepts c = (λ e. (block_test c.args.a c.letters.result c.args.wreaths.items c.deref.result.now c.are_recursions.result c.letters.ensures.value c.deref.ensures.value c.letters.ensures.least c.letters.ensures.most c.are_recursions.ensures).0 c.if-are_recursions.true, λ h. refl)

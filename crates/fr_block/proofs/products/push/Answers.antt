use Rattle.std.proofs.Common.{arith, sym, ◌∙◌}
use Rattle.fr_block.specs.Blocks.{factor_of}
use Rattle.fr_block.proofs.ReductionLaws.{popped_at, pushed_at}
use Rattle.fr_block.proofs.products.push.Goals as goal

pub returns-then-ends_against-clause-value : goal.returns-then-ends_against-clause-value
returns-then-ends_against-clause-value c = popped_at c.args.word.now c.args.count c.args.factor (factor_of c.args.factor) (c.ends_against.ensures.some c.if-ends_against.true) (omega (arith, c.requires.room)) c.requires.reduced (sym c.ends_against.ensures.value ∙ c.if-ends_against.true)

pub returns-clause-value : goal.returns-clause-value
returns-clause-value c = pushed_at c.args.word.now c.args.count c.args.factor c.requires.room c.requires.reduced (sym c.ends_against.ensures.value ∙ c.if-ends_against.false)

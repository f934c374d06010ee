use Rattle.std.proofs.Common.{arith, ◌∙◌}
use Rattle.fr_block.specs.Blocks.{factor_of}
use Rattle.fr_block.proofs.ReductionLaws.{ends_at}
use Rattle.fr_block.proofs.products.ends_against.Goals as goal

pub returns-clause-value : goal.returns-clause-value
returns-clause-value c = c.cancels.ensures ∙ ends_at c.args.word.now c.args.count _ (factor_of c.args.factor) (omega (arith, c.if-count-eq0.false)) c.requires

use Rattle.fr_syntax.specs.Lines.{tokens_of}
use Rattle.fr_syntax.proofs.LexerLaws.{no_more}
use Rattle.fr_syntax.proofs.lexer.tokens.Goals as goal

pub returns : goal.returns
unfolding tokens_of
returns c = no_more _ _ _ _ c.args.text.now c.loop-i-test.false c.loop-i.invariant.told

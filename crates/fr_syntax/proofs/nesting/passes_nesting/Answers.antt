use Rattle.fr_syntax.proofs.LexerLaws.{nests_true, nests_false}
use Rattle.fr_syntax.proofs.nesting.passes_nesting.Goals as goal

pub returns-then-round-square-gt-NESTING_LIMIT : goal.returns-then-round-square-gt-NESTING_LIMIT
returns-then-round-square-gt-NESTING_LIMIT c =
    nests_true _ _ _ _ _ c.args.tokens.now _ _ c.loop-token-test.true c.round_after-round.ensures c.square_after-square.ensures
    c.if-round-square-gt-NESTING_LIMIT.true c.loop-token.invariant.left

pub loop-token-preserved : goal.loop-token-preserved
loop-token-preserved c = record {
  few = c.if-round-square-gt-NESTING_LIMIT.false;
  left = nests_false _ _ _ _ _ c.args.tokens.now _ _ c.loop-token-test.true c.round_after-round.ensures c.square_after-square.ensures
      c.if-round-square-gt-NESTING_LIMIT.false c.loop-token.invariant.left;
}

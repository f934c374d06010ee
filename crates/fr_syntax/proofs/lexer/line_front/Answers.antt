use Rattle.std.proofs.Common.{sym, ◌∙◌}
use Rattle.fr_syntax.proofs.LexerLaws.{front_none, front_some}
use Rattle.fr_syntax.proofs.lexer.line_front.Goals as goal

pub returns-then-is_empty : goal.returns-then-is_empty
returns-then-is_empty c =
    front_none c.args.text.now c.skip_blanks-text.result.now c.skip_blanks-text.ensures.same (sym c.is_empty.ensures ∙ c.if-is_empty.true)

pub returns : goal.returns
returns c =
    front_some c.args.text.now c.skip_blanks-text.result.now c.skip_blanks-rest.result.now _ c.first_token-first.result.length c.is_empty-2.result
    c.skip_blanks-text.ensures.same c.first_token-first.ensures.first c.skip_blanks-rest.ensures.same c.skip_blanks-rest.ensures.solid c.is_empty-2.ensures

use Rattle.std.proofs.Common.{ℕ, Bool, ◌==◌, ◌∙◌}
use Rattle.fr_syntax.proofs.LexerLaws.{first_is_before}
use Rattle.fr_syntax.proofs.lexer.length_before.Goals as goal

pub returns : goal.returns
returns c =
    let p : ℕ → Bool = λ x. x == c.args.byte in
    c.unwrap_or.ensures ∙ first_is_before p c.args.text.now c.memchr.result c.memchr.ensures

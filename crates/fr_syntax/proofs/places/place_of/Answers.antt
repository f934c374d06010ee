use Rattle.std.proofs.Common.{sym, ◌∙◌}
use Rattle.fr_syntax.proofs.LexerLaws.{place_inside, place_past}
use Rattle.fr_syntax.proofs.places.place_of.Goals as goal

pub returns-then-k-tokens : goal.returns-then-k-tokens
returns-then-k-tokens c = sym (place_inside c.args.tokens.now c.args.k _ c.if-k-tokens.true)

pub returns-else-is_empty : goal.returns-else-is_empty
returns-else-is_empty c = sym (place_past c.args.tokens.now c.args.k _ c.if-k-tokens.false (sym c.is_empty.ensures ∙ c.if-is_empty.false))

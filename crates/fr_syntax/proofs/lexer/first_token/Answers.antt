use Rattle.std.proofs.Common.{sym, ◌∙◌, ap, length, take_while}
use Rattle.fr_syntax.specs.Lines.{is_name_byte, is_digit}
use Rattle.fr_syntax.proofs.LexerLaws.{name_first, number_first, mark_first, tail_slice}
use Rattle.fr_syntax.proofs.lexer.first_token.Goals as goal

pub returns-then-is_letter-clause-first : goal.returns-then-is_letter-clause-first
returns-then-is_letter-clause-first c =
    name_first c.args.text.now c.name_length-length.result c.requires.some c.requires.solid (sym c.is_letter.ensures ∙ c.if-is_letter.true)
    (c.name_length-length.ensures ∙ ap (λ l. length (take_while is_name_byte l)) (tail_slice c.args.text.now))

pub returns-then-is_digit-clause-first : goal.returns-then-is_digit-clause-first
returns-then-is_digit-clause-first c =
    number_first c.args.text.now c.number_length-length.result c.requires.some c.requires.solid
    (sym c.is_letter.ensures ∙ c.if-is_letter.false) (sym c.is_digit.ensures ∙ c.if-is_digit.true)
    (c.number_length-length.ensures ∙ ap (λ l. length (take_while is_digit l)) (tail_slice c.args.text.now))

pub returns-else-is_digit-clause-first : goal.returns-else-is_digit-clause-first
returns-else-is_digit-clause-first c = λ p.
    rw c.mark.ensures (mark_first c.args.text.now c.requires.some c.requires.solid
    (sym c.is_letter.ensures ∙ c.if-is_letter.false) (sym c.is_digit.ensures ∙ c.if-is_digit.false) p)

use Rattle.std.proofs.Common.{ap, sym, ◌∙◌}
use Rattle.fr_syntax.specs.Lines.{lexemes, tokens_of}
use Rattle.fr_script.proofs.KindLaws.{kind_of-none, kind_of-front}
use Rattle.fr_script.proofs.item.line_kind.Goals as goal

pub returns-in-Some : goal.returns-in-Some
returns-in-Some c =
    kind_of-front c.args.line.now c.kind_of.result _ c.in-Some.ensures.0 (ap (λ text. lexemes (tokens_of text)) (sym c.code.ensures) ∙ c.in-Some.ensures.1)
    (c.kind_of.ensures c.in-Some.ensures.0 c.in-Some.ensures.2)

pub returns-in-None : goal.returns-in-None
returns-in-None c = kind_of-none c.args.line.now (ap (λ text. lexemes (tokens_of text)) (sym c.code.ensures) ∙ c.in-None.ensures)

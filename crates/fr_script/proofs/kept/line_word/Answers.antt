use Rattle.std.proofs.Common.{ap, sym, ◌∙◌, refl}
use Rattle.fr_syntax.specs.Lines.{lexemes, tokens_of}
use Rattle.fr_script.proofs.WordLaws.{first-of}
use Rattle.fr_script.proofs.kept.line_word.Goals as goal

pub returns-in-Some : goal.returns-in-Some
returns-in-Some c =
    first-of c.args.line.now _ c.word_of.result (ap (λ text. lexemes (tokens_of text)) (sym c.code.ensures) ∙ c.in-Some.ensures.1)
    (c.word_of.ensures c.in-Some.ensures.0)

pub returns-in-None : goal.returns-in-None
returns-in-None c = first-of c.args.line.now _ _ (ap (λ text. lexemes (tokens_of text)) (sym c.code.ensures) ∙ c.in-None.ensures) refl

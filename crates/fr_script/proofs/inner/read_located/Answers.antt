use Rattle.std.proofs.Common.{sym, ◌∙◌}
use Rattle.fr_syntax.specs.declared.recursion.RecursionReading.TheVariants as r
use Rattle.fr_script.proofs.InnerLaws.{nested, parsed}
use Rattle.fr_script.proofs.LetterLaws.{HasLetters-read}
use Rattle.fr_script.proofs.inner.read_located.Goals as goal

pub returns-then-passes_nesting : goal.returns-then-passes_nesting
returns-then-passes_nesting c = nested c.args.a c.args.n c.args.tokens.now (sym c.passes_nesting.ensures ∙ c.if-passes_nesting.true)

pub returns-in_ok-checked-in-Whole : goal.returns-in_ok-checked-in-Whole
returns-in_ok-checked-in-Whole c =
    rw (c.in_ok-checked-in-Whole.ensures) (parsed c.args.a c.args.n c.args.tokens.now (r.Whole c.in-Whole.line)
    (sym c.passes_nesting.ensures ∙ c.if-passes_nesting.false) (rw c.in-Whole.is at c.in_ok-line.ensures))

pub returns-in-Syntax : goal.returns-in-Syntax
returns-in-Syntax c =
    rw (c.syntax_fault.ensures) (parsed c.args.a c.args.n c.args.tokens.now (r.Syntax c.in-Syntax.k)
    (sym c.passes_nesting.ensures ∙ c.if-passes_nesting.false) (rw c.in-Syntax.is at c.in_ok-line.ensures))

pub checked-requires : goal.checked-requires
checked-requires c = HasLetters-read c.args.a _ c.in-Whole.line (rw c.in-Whole.is at c.in_ok-line.ensures)

use Rattle.std.proofs.Common.{sym, ◌∙◌}
use Rattle.fr_syntax.specs.declared.line.LineReading.TheVariants as r
use Rattle.fr_script.proofs.ReadingLaws.{unknown, nested, parsed}
use Rattle.fr_script.proofs.outcome.read_located.Goals as goal

pub returns-then-not-begins_statement : goal.returns-then-not-begins_statement
returns-then-not-begins_statement c =
    unknown c.args.a c.args.is_first c.args.tokens.now (sym c.begins_statement.ensures ∙ c.if-not-begins_statement.true)

pub returns-then-passes_nesting : goal.returns-then-passes_nesting
returns-then-passes_nesting c =
    nested c.args.a c.args.is_first c.args.tokens.now (sym c.begins_statement.ensures ∙ c.if-not-begins_statement.false)
    (sym c.passes_nesting.ensures ∙ c.if-passes_nesting.true)

pub returns-in-Whole : goal.returns-in-Whole
returns-in-Whole c =
    rw (c.checked.ensures) (parsed c.args.a c.args.is_first c.args.tokens.now (r.Whole c.in-Whole.read)
    (sym c.begins_statement.ensures ∙ c.if-not-begins_statement.false) (sym c.passes_nesting.ensures ∙ c.if-passes_nesting.false)
    (rw c.in-Whole.is at c.in_ok-read.ensures))

pub returns-in-Syntax : goal.returns-in-Syntax
returns-in-Syntax c =
    rw (c.syntax_fault.ensures) (parsed c.args.a c.args.is_first c.args.tokens.now (r.Syntax c.in-Syntax.k)
    (sym c.begins_statement.ensures ∙ c.if-not-begins_statement.false) (sym c.passes_nesting.ensures ∙ c.if-passes_nesting.false)
    (rw c.in-Syntax.is at c.in_ok-read.ensures))

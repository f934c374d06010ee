use Rattle.std.proofs.Common.{sym, ◌∙◌}
use Rattle.fr_script.proofs.KindLaws.{end_inside, blank_inside, other_inside}
use Rattle.fr_script.proofs.item.read_inside.Goals as goal

pub returns-then-is_end : goal.returns-then-is_end
returns-then-is_end c =
    rw c.ended.ensures (end_inside c.args.a c.args.block c.args.n c.args.line.now c.line_kind-kind.result
    c.line_kind-kind.ensures (sym c.is_end.ensures ∙ c.if-is_end.true))

pub returns-then-is_blank : goal.returns-then-is_blank
returns-then-is_blank c =
    blank_inside c.args.a c.args.block c.args.n c.args.line.now c.line_kind-kind.result
    c.line_kind-kind.ensures (sym c.is_end.ensures ∙ c.if-is_end.false)
    (sym c.is_blank.ensures ∙ c.if-is_blank.true)

pub returns : goal.returns
returns c =
    rw c.in_ok-grown.ensures (other_inside c.args.a c.args.block c.args.n c.args.line.now c.line_kind-kind.result c.in_ok-outcome.outcome
    c.line_kind-kind.ensures (sym c.is_end.ensures ∙ c.if-is_end.false)
    (sym c.is_blank.ensures ∙ c.if-is_blank.false) c.in_ok-outcome.ensures)

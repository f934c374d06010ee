use Rattle.std.proofs.Common.{sym, ◌∙◌}
use Rattle.fr_script.proofs.KindLaws.{blank_outside, other_outside}
use Rattle.fr_script.proofs.KeptLaws.{kept_outside}
use Rattle.fr_script.proofs.item.read_outside.Goals as goal

pub returns-then-is_blank : goal.returns-then-is_blank
returns-then-is_blank c =
    blank_outside c.args.a c.args.is_first c.args.n c.args.line.now c.line_kind-kind.result
    c.line_kind-kind.ensures (sym c.is_blank.ensures ∙ c.if-is_blank.true)

pub returns-then-may_wait : goal.returns-then-may_wait
returns-then-may_wait c =
    kept_outside c.args.a c.args.is_first c.args.n c.args.line.now c.line_kind-kind.result c.in_ok-body.body
    c.line_kind-kind.ensures (sym c.is_blank.ensures ∙ c.if-is_blank.false) (sym c.may_wait.ensures ∙ c.if-may_wait.true) c.in_ok-body.ensures

pub returns : goal.returns
returns c =
    rw (c.outside_of.ensures, c.is_group.ensures) (other_outside c.args.a c.args.is_first c.args.n c.args.line.now c.line_kind-kind.result c.in_ok-outcome.outcome
    c.line_kind-kind.ensures (sym c.is_blank.ensures ∙ c.if-is_blank.false) c.in_ok-outcome.ensures)

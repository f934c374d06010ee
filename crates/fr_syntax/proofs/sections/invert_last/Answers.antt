use Rattle.std.proofs.Common.{ap, sym, ◌∙◌}
use Rattle.fr_syntax.specs.RecursionSteps.{invert_last}
use Rattle.fr_syntax.proofs.RecursionValueLaws.{invert_last-last}
use Rattle.fr_syntax.proofs.sections.invert_last.Goals as goal

pub returns-in_ok-push : goal.returns-in_ok-push
returns-in_ok-push c =
    c.in_ok-push.ensures.ok ∙ sym (ap invert_last c.in-Some.ensures ∙ invert_last-last c.pop.new.self c.in-Some.last)

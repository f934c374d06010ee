use Rattle.std.proofs.Common.{[], ◌∷◌, ◌++◌, ap, sym, ◌∙◌}
use Rattle.fr_syntax.specs.Steps.{add_op}
use Rattle.fr_syntax.proofs.StepLaws.{add_op-last}
use Rattle.fr_syntax.proofs.unfinished.add_op.Goals as goal

pub returns-in_ok-push : goal.returns-in_ok-push
returns-in_ok-push c =
    c.in_ok-push.ensures.ok ∙ ap (λ f. c.pop.new.self ++ f ∷ []) c.in_ok-with_op.ensures
    ∙ sym (ap (λ l. add_op l c.args.op) c.in-Some.ensures ∙ add_op-last c.pop.new.self c.in-Some.factor c.args.op)

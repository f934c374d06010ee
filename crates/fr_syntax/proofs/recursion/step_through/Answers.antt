use Rattle.std.proofs.Common.{refl, ap, sym, ◌∙◌}
use Rattle.fr_syntax.specs.RecursionSteps.{reading, moved}
use Rattle.fr_syntax.proofs.RecursionValueLaws.{goes_on, stops}
use Rattle.fr_syntax.proofs.recursion.step_through.Goals as goal

pub loop-k-init : goal.loop-k-init
unfolding reading
loop-k-init c = refl

pub returns-then-not-branch : goal.returns-then-not-branch
returns-then-not-branch c =
    stops _ _ c.loop-k.spot c.args.tokens.now _ _ c.loop-k-test.true
    (sym (ap (λ goes. moved goes c.take.new.self) c.if-not-branch.true) ∙ c.in_ok-take.ensures) c.loop-k.invariant

pub loop-k-preserved : goal.loop-k-preserved
loop-k-preserved c =
    goes_on _ _ c.loop-k.spot c.take.new.self c.args.tokens.now _ _ c.loop-k-test.true
    (sym (ap (λ goes. moved goes c.take.new.self) c.if-not-branch.false) ∙ c.in_ok-take.ensures) c.loop-k.invariant

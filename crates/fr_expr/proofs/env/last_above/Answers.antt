use Rattle.std.proofs.Common.{sym, ◌∙◌, ap, arith, ◌-◌, length}
use Rattle.std.proofs.lemmas.List.{take_all}
use Rattle.fr_expr.specs.Names.{above}
use Rattle.fr_expr.proofs.NameLaws.{above-found, above-passed}
use Rattle.fr_expr.proofs.env.last_above.Goals as goal

pub loop-k-init : goal.loop-k-init
loop-k-init c = (omega arith, sym (ap (above c.args.line) (take_all (length c.args.bindings.now) c.args.bindings.now (omega arith))))

pub bounds-bindings-k : goal.bounds-bindings-k
bounds-bindings-k c = omega (arith, c.loop-k-test.true, c.loop-k.invariant.0)

pub bounds-bindings-k-then-bindings-k : goal.bounds-bindings-k-then-bindings-k
bounds-bindings-k-then-bindings-k c = omega (arith, c.loop-k-test.true, c.loop-k.invariant.0)

pub returns-then-bindings-k : goal.returns-then-bindings-k
returns-then-bindings-k c =
    above-found c.args.line (c.loop-k.k - 1) c.loop-k.k c.args.bindings.now _ (omega (arith, c.loop-k-test.true)) c.loop-k.invariant.0 c.if-bindings-k.true ∙ sym c.loop-k.invariant.1

pub loop-k-preserved : goal.loop-k-preserved
loop-k-preserved c = (
  omega (arith, c.loop-k.invariant.0),
  c.loop-k.invariant.1 ∙ sym (above-passed c.args.line (c.loop-k.k - 1) c.loop-k.k c.args.bindings.now _ (omega (arith, c.loop-k-test.true)) c.loop-k.invariant.0 c.if-bindings-k.false),
)

use Rattle.std.proofs.Common.{subst, Err}
use Rattle.std.proofs.lemmas.Result.{err_from_is_err_and}
use Rattle.fr_plain.specs.Expansions.{Expansion, inverse_of, power_of}
use Rattle.fr_expr.specs.Evaluation.{Evaluates}
use Rattle.fr_expr.proofs.EvaluationLaws.{goes_from, stops}
use Rattle.fr_expr.proofs.PowerLaws.{negative_power}
use Rattle.fr_expr.proofs.power.signed_power.Goals as goal

pub returns-in_err-inverse-clause-evaluates : goal.returns-in_err-inverse-clause-evaluates
returns-in_err-inverse-clause-evaluates g c = λ t x.
    let p = err_from_is_err_and c.from_residual.result c.from_residual.ensures.1 in
    let view = g.S.Store.view in
    let d = view.alphabet c.args.store.now in
    rw (p.1, p.2)
    (subst (λ (e : Expansion). Evaluates view d c.args.store.now c.invert.new.store c.args.charge.now c.invert.new.charge e (Err c.in_err-inverse.field-0.0)) (negative_power c.args.negative c.args.k t c.if-k-eq0.false c.if-negative.true)
    (stops view g.met.S.Store.kin_onward d (inverse_of t) (λ q. power_of q c.args.k) c.args.store.now c.invert.new.store c.args.charge.now c.invert.new.charge c.in_err-inverse.field-0.0 (c.in_err-inverse.ensures.evaluates t x)))

pub returns-then-negative-clause-evaluates : goal.returns-then-negative-clause-evaluates
returns-then-negative-clause-evaluates g c = λ t x.
    let view = g.S.Store.view in
    let d = view.alphabet c.args.store.now in
    subst (λ (e : Expansion). Evaluates view d c.args.store.now c.power.new.store c.args.charge.now c.power.new.charge e c.power.result) (negative_power c.args.negative c.args.k t c.if-k-eq0.false c.if-negative.true)
    (goes_from view g.met.S.Store.kin_onward d (inverse_of t) (λ q. power_of q c.args.k) c.args.store.now c.invert.new.store c.power.new.store c.args.charge.now c.invert.new.charge c.power.new.charge c.in_ok-inverse.inverse c.power.result
    c.in_ok-inverse.ensures.continues.alphabet (c.in_ok-inverse.ensures.evaluates t x) (λ h. c.power.ensures.evaluates _ h))

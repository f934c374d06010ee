use Rattle.std.proofs.Common.{Err}
use Rattle.std.proofs.lemmas.Result.{err_from_is_err_and}
use Rattle.fr_store.specs.Store.{Stands}
use Rattle.fr_plain.specs.Expansions.{inverse_of, product_of, followed_by}
use Rattle.fr_expr.proofs.EvaluationLaws.{goes_from, stops, carries}
use Rattle.fr_expr.proofs.power.conjugate.Goals as goal

pub returns-in_err-inverse-clause-evaluates : goal.returns-in_err-inverse-clause-evaluates
returns-in_err-inverse-clause-evaluates g c = λ t u x y.
    let p = err_from_is_err_and c.from_residual.result c.from_residual.ensures.1 in
    let view = g.S.Store.view in
    let on = g.met.S.Store.kin_onward in
    let d = view.alphabet c.args.store.now in
    rw (p.1, p.2)
    (stops view on d (inverse_of u) (λ g. followed_by (product_of g t) (λ p. product_of p u)) c.args.store.now c.invert.new.store c.args.charge.now c.invert.new.charge c.in_err-inverse.field-0.0 (c.in_err-inverse.ensures.evaluates u y))

pub returns-in_err-first-clause-evaluates : goal.returns-in_err-first-clause-evaluates
returns-in_err-first-clause-evaluates g c = λ t u x y.
    let p = err_from_is_err_and c.from_residual-in_err-first.result c.from_residual-in_err-first.ensures.1 in
    let view = g.S.Store.view in
    let on = g.met.S.Store.kin_onward in
    let d = view.alphabet c.args.store.now in
    let x1 : Stands view c.invert.new.store c.args.a t = carries view c.args.store.now c.invert.new.store c.args.a t c.in_ok-inverse.ensures.continues c.in_ok-inverse.ensures.keeps x in
    let y1 : Stands view c.invert.new.store c.args.b u = carries view c.args.store.now c.invert.new.store c.args.b u c.in_ok-inverse.ensures.continues c.in_ok-inverse.ensures.keeps y in
    rw (p.1, p.2)
    (goes_from view on d (inverse_of u) (λ g. followed_by (product_of g t) (λ p. product_of p u)) c.args.store.now c.invert.new.store c.multiply.new.store c.args.charge.now c.invert.new.charge c.multiply.new.charge c.in_ok-inverse.inverse (Err c.in_err-first.field-0.0) c.in_ok-inverse.ensures.continues.alphabet (c.in_ok-inverse.ensures.evaluates u y) (λ h0.
    stops view on (view.alphabet c.invert.new.store) (product_of (inverse_of u).value t) (λ p. product_of p u) c.invert.new.store c.multiply.new.store c.invert.new.charge c.multiply.new.charge c.in_err-first.field-0.0 (c.in_err-first.ensures.evaluates _ t h0 x1)))

pub returns-clause-evaluates : goal.returns-clause-evaluates
returns-clause-evaluates g c = λ t u x y.
    let view = g.S.Store.view in
    let on = g.met.S.Store.kin_onward in
    let d = view.alphabet c.args.store.now in
    let x1 : Stands view c.invert.new.store c.args.a t = carries view c.args.store.now c.invert.new.store c.args.a t c.in_ok-inverse.ensures.continues c.in_ok-inverse.ensures.keeps x in
    let y1 : Stands view c.invert.new.store c.args.b u = carries view c.args.store.now c.invert.new.store c.args.b u c.in_ok-inverse.ensures.continues c.in_ok-inverse.ensures.keeps y in
    let x2 : Stands view c.multiply.new.store c.args.a t = carries view c.invert.new.store c.multiply.new.store c.args.a t c.in_ok-first.ensures.continues c.in_ok-first.ensures.keeps x1 in
    let y2 : Stands view c.multiply.new.store c.args.b u = carries view c.invert.new.store c.multiply.new.store c.args.b u c.in_ok-first.ensures.continues c.in_ok-first.ensures.keeps y1 in
    goes_from view on d (inverse_of u) (λ g. followed_by (product_of g t) (λ p. product_of p u)) c.args.store.now c.invert.new.store c.multiply-2.new.store c.args.charge.now c.invert.new.charge c.multiply-2.new.charge c.in_ok-inverse.inverse c.multiply-2.result c.in_ok-inverse.ensures.continues.alphabet (c.in_ok-inverse.ensures.evaluates u y) (λ h0.
    goes_from view on (view.alphabet c.invert.new.store) (product_of (inverse_of u).value t) (λ p. product_of p u) c.invert.new.store c.multiply.new.store c.multiply-2.new.store c.invert.new.charge c.multiply.new.charge c.multiply-2.new.charge c.in_ok-first.first c.multiply-2.result c.in_ok-first.ensures.continues.alphabet (c.in_ok-first.ensures.evaluates _ t h0 x1) (λ h1.
    (c.multiply-2.ensures.evaluates _ u h1 y2)))

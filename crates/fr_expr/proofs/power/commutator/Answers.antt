use Rattle.std.proofs.Common.{Err}
use Rattle.std.proofs.lemmas.Result.{err_from_is_err_and}
use Rattle.fr_store.specs.Store.{Stands}
use Rattle.fr_plain.specs.Expansions.{inverse_of, product_of, followed_by}
use Rattle.fr_expr.proofs.EvaluationLaws.{goes_from, stops, carries}
use Rattle.fr_expr.proofs.power.commutator.Goals as goal

pub returns-in_err-left-clause-evaluates : goal.returns-in_err-left-clause-evaluates
returns-in_err-left-clause-evaluates g c = λ t u x y.
    let p = err_from_is_err_and c.from_residual.result c.from_residual.ensures.1 in
    let view = g.S.Store.view in
    let on = g.met.S.Store.kin_onward in
    let d = view.alphabet c.args.store.now in
    rw (p.1, p.2)
    (stops view on d (inverse_of t) (λ g. followed_by (inverse_of u) (λ h. followed_by (product_of g h) (λ p. followed_by (product_of p t) (λ q. product_of q u)))) c.args.store.now c.invert.new.store c.args.charge.now c.invert.new.charge c.in_err-left.field-0.0 (c.in_err-left.ensures.evaluates t x))

pub returns-in_err-right-clause-evaluates : goal.returns-in_err-right-clause-evaluates
returns-in_err-right-clause-evaluates g c = λ t u x y.
    let p = err_from_is_err_and c.from_residual-in_err-right.result c.from_residual-in_err-right.ensures.1 in
    let view = g.S.Store.view in
    let on = g.met.S.Store.kin_onward in
    let d = view.alphabet c.args.store.now in
    let x1 : Stands view c.invert.new.store c.args.a t = carries view c.args.store.now c.invert.new.store c.args.a t c.in_ok-left.ensures.continues c.in_ok-left.ensures.keeps x in
    let y1 : Stands view c.invert.new.store c.args.b u = carries view c.args.store.now c.invert.new.store c.args.b u c.in_ok-left.ensures.continues c.in_ok-left.ensures.keeps y in
    rw (p.1, p.2)
    (goes_from view on d (inverse_of t) (λ g. followed_by (inverse_of u) (λ h. followed_by (product_of g h) (λ p. followed_by (product_of p t) (λ q. product_of q u)))) c.args.store.now c.invert.new.store c.invert-2.new.store c.args.charge.now c.invert.new.charge c.invert-2.new.charge c.in_ok-left.left (Err c.in_err-right.field-0.0) c.in_ok-left.ensures.continues.alphabet (c.in_ok-left.ensures.evaluates t x) (λ h0.
    stops view on (view.alphabet c.invert.new.store) (inverse_of u) (λ h. followed_by (product_of (inverse_of t).value h) (λ p. followed_by (product_of p t) (λ q. product_of q u))) c.invert.new.store c.invert-2.new.store c.invert.new.charge c.invert-2.new.charge c.in_err-right.field-0.0 (c.in_err-right.ensures.evaluates u y1)))

pub returns-in_err-both-clause-evaluates : goal.returns-in_err-both-clause-evaluates
returns-in_err-both-clause-evaluates g c = λ t u x y.
    let p = err_from_is_err_and c.from_residual-in_err-both.result c.from_residual-in_err-both.ensures.1 in
    let view = g.S.Store.view in
    let on = g.met.S.Store.kin_onward in
    let d = view.alphabet c.args.store.now in
    let x1 : Stands view c.invert.new.store c.args.a t = carries view c.args.store.now c.invert.new.store c.args.a t c.in_ok-left.ensures.continues c.in_ok-left.ensures.keeps x in
    let y1 : Stands view c.invert.new.store c.args.b u = carries view c.args.store.now c.invert.new.store c.args.b u c.in_ok-left.ensures.continues c.in_ok-left.ensures.keeps y in
    let x2 : Stands view c.invert-2.new.store c.args.a t = carries view c.invert.new.store c.invert-2.new.store c.args.a t c.in_ok-right.ensures.continues c.in_ok-right.ensures.keeps x1 in
    let y2 : Stands view c.invert-2.new.store c.args.b u = carries view c.invert.new.store c.invert-2.new.store c.args.b u c.in_ok-right.ensures.continues c.in_ok-right.ensures.keeps y1 in
    rw (p.1, p.2)
    (goes_from view on d (inverse_of t) (λ g. followed_by (inverse_of u) (λ h. followed_by (product_of g h) (λ p. followed_by (product_of p t) (λ q. product_of q u)))) c.args.store.now c.invert.new.store c.multiply.new.store c.args.charge.now c.invert.new.charge c.multiply.new.charge c.in_ok-left.left (Err c.in_err-both.field-0.0) c.in_ok-left.ensures.continues.alphabet (c.in_ok-left.ensures.evaluates t x) (λ h0.
    goes_from view on (view.alphabet c.invert.new.store) (inverse_of u) (λ h. followed_by (product_of (inverse_of t).value h) (λ p. followed_by (product_of p t) (λ q. product_of q u))) c.invert.new.store c.invert-2.new.store c.multiply.new.store c.invert.new.charge c.invert-2.new.charge c.multiply.new.charge c.in_ok-right.right (Err c.in_err-both.field-0.0) c.in_ok-right.ensures.continues.alphabet (c.in_ok-right.ensures.evaluates u y1) (λ h1.
    stops view on (view.alphabet c.invert-2.new.store) (product_of (inverse_of t).value (inverse_of u).value) (λ p. followed_by (product_of p t) (λ q. product_of q u)) c.invert-2.new.store c.multiply.new.store c.invert-2.new.charge c.multiply.new.charge c.in_err-both.field-0.0 (c.in_err-both.ensures.evaluates _ _ (carries view c.invert.new.store c.invert-2.new.store c.in_ok-left.left _ c.in_ok-right.ensures.continues c.in_ok-right.ensures.keeps h0) h1))))

pub returns-in_err-first-clause-evaluates : goal.returns-in_err-first-clause-evaluates
returns-in_err-first-clause-evaluates g c = λ t u x y.
    let p = err_from_is_err_and c.from_residual-in_err-first.result c.from_residual-in_err-first.ensures.1 in
    let view = g.S.Store.view in
    let on = g.met.S.Store.kin_onward in
    let d = view.alphabet c.args.store.now in
    let x1 : Stands view c.invert.new.store c.args.a t = carries view c.args.store.now c.invert.new.store c.args.a t c.in_ok-left.ensures.continues c.in_ok-left.ensures.keeps x in
    let y1 : Stands view c.invert.new.store c.args.b u = carries view c.args.store.now c.invert.new.store c.args.b u c.in_ok-left.ensures.continues c.in_ok-left.ensures.keeps y in
    let x2 : Stands view c.invert-2.new.store c.args.a t = carries view c.invert.new.store c.invert-2.new.store c.args.a t c.in_ok-right.ensures.continues c.in_ok-right.ensures.keeps x1 in
    let y2 : Stands view c.invert-2.new.store c.args.b u = carries view c.invert.new.store c.invert-2.new.store c.args.b u c.in_ok-right.ensures.continues c.in_ok-right.ensures.keeps y1 in
    let x3 : Stands view c.multiply.new.store c.args.a t = carries view c.invert-2.new.store c.multiply.new.store c.args.a t c.in_ok-both.ensures.continues c.in_ok-both.ensures.keeps x2 in
    let y3 : Stands view c.multiply.new.store c.args.b u = carries view c.invert-2.new.store c.multiply.new.store c.args.b u c.in_ok-both.ensures.continues c.in_ok-both.ensures.keeps y2 in
    rw (p.1, p.2)
    (goes_from view on d (inverse_of t) (λ g. followed_by (inverse_of u) (λ h. followed_by (product_of g h) (λ p. followed_by (product_of p t) (λ q. product_of q u)))) c.args.store.now c.invert.new.store c.multiply-2.new.store c.args.charge.now c.invert.new.charge c.multiply-2.new.charge c.in_ok-left.left (Err c.in_err-first.field-0.0) c.in_ok-left.ensures.continues.alphabet (c.in_ok-left.ensures.evaluates t x) (λ h0.
    goes_from view on (view.alphabet c.invert.new.store) (inverse_of u) (λ h. followed_by (product_of (inverse_of t).value h) (λ p. followed_by (product_of p t) (λ q. product_of q u))) c.invert.new.store c.invert-2.new.store c.multiply-2.new.store c.invert.new.charge c.invert-2.new.charge c.multiply-2.new.charge c.in_ok-right.right (Err c.in_err-first.field-0.0) c.in_ok-right.ensures.continues.alphabet (c.in_ok-right.ensures.evaluates u y1) (λ h1.
    goes_from view on (view.alphabet c.invert-2.new.store) (product_of (inverse_of t).value (inverse_of u).value) (λ p. followed_by (product_of p t) (λ q. product_of q u)) c.invert-2.new.store c.multiply.new.store c.multiply-2.new.store c.invert-2.new.charge c.multiply.new.charge c.multiply-2.new.charge c.in_ok-both.both (Err c.in_err-first.field-0.0) c.in_ok-both.ensures.continues.alphabet (c.in_ok-both.ensures.evaluates _ _ (carries view c.invert.new.store c.invert-2.new.store c.in_ok-left.left _ c.in_ok-right.ensures.continues c.in_ok-right.ensures.keeps h0) h1) (λ h2.
    stops view on (view.alphabet c.multiply.new.store) (product_of (product_of (inverse_of t).value (inverse_of u).value).value t) (λ q. product_of q u) c.multiply.new.store c.multiply-2.new.store c.multiply.new.charge c.multiply-2.new.charge c.in_err-first.field-0.0 (c.in_err-first.ensures.evaluates _ t h2 x3)))))

pub returns-clause-evaluates : goal.returns-clause-evaluates
returns-clause-evaluates g c = λ t u x y.
    let view = g.S.Store.view in
    let on = g.met.S.Store.kin_onward in
    let d = view.alphabet c.args.store.now in
    let x1 : Stands view c.invert.new.store c.args.a t = carries view c.args.store.now c.invert.new.store c.args.a t c.in_ok-left.ensures.continues c.in_ok-left.ensures.keeps x in
    let y1 : Stands view c.invert.new.store c.args.b u = carries view c.args.store.now c.invert.new.store c.args.b u c.in_ok-left.ensures.continues c.in_ok-left.ensures.keeps y in
    let x2 : Stands view c.invert-2.new.store c.args.a t = carries view c.invert.new.store c.invert-2.new.store c.args.a t c.in_ok-right.ensures.continues c.in_ok-right.ensures.keeps x1 in
    let y2 : Stands view c.invert-2.new.store c.args.b u = carries view c.invert.new.store c.invert-2.new.store c.args.b u c.in_ok-right.ensures.continues c.in_ok-right.ensures.keeps y1 in
    let x3 : Stands view c.multiply.new.store c.args.a t = carries view c.invert-2.new.store c.multiply.new.store c.args.a t c.in_ok-both.ensures.continues c.in_ok-both.ensures.keeps x2 in
    let y3 : Stands view c.multiply.new.store c.args.b u = carries view c.invert-2.new.store c.multiply.new.store c.args.b u c.in_ok-both.ensures.continues c.in_ok-both.ensures.keeps y2 in
    let x4 : Stands view c.multiply-2.new.store c.args.a t = carries view c.multiply.new.store c.multiply-2.new.store c.args.a t c.in_ok-first.ensures.continues c.in_ok-first.ensures.keeps x3 in
    let y4 : Stands view c.multiply-2.new.store c.args.b u = carries view c.multiply.new.store c.multiply-2.new.store c.args.b u c.in_ok-first.ensures.continues c.in_ok-first.ensures.keeps y3 in
    goes_from view on d (inverse_of t) (λ g. followed_by (inverse_of u) (λ h. followed_by (product_of g h) (λ p. followed_by (product_of p t) (λ q. product_of q u)))) c.args.store.now c.invert.new.store c.multiply-3.new.store c.args.charge.now c.invert.new.charge c.multiply-3.new.charge c.in_ok-left.left c.multiply-3.result c.in_ok-left.ensures.continues.alphabet (c.in_ok-left.ensures.evaluates t x) (λ h0.
    goes_from view on (view.alphabet c.invert.new.store) (inverse_of u) (λ h. followed_by (product_of (inverse_of t).value h) (λ p. followed_by (product_of p t) (λ q. product_of q u))) c.invert.new.store c.invert-2.new.store c.multiply-3.new.store c.invert.new.charge c.invert-2.new.charge c.multiply-3.new.charge c.in_ok-right.right c.multiply-3.result c.in_ok-right.ensures.continues.alphabet (c.in_ok-right.ensures.evaluates u y1) (λ h1.
    goes_from view on (view.alphabet c.invert-2.new.store) (product_of (inverse_of t).value (inverse_of u).value) (λ p. followed_by (product_of p t) (λ q. product_of q u)) c.invert-2.new.store c.multiply.new.store c.multiply-3.new.store c.invert-2.new.charge c.multiply.new.charge c.multiply-3.new.charge c.in_ok-both.both c.multiply-3.result c.in_ok-both.ensures.continues.alphabet (c.in_ok-both.ensures.evaluates _ _ (carries view c.invert.new.store c.invert-2.new.store c.in_ok-left.left _ c.in_ok-right.ensures.continues c.in_ok-right.ensures.keeps h0) h1) (λ h2.
    goes_from view on (view.alphabet c.multiply.new.store) (product_of (product_of (inverse_of t).value (inverse_of u).value).value t) (λ q. product_of q u) c.multiply.new.store c.multiply-2.new.store c.multiply-3.new.store c.multiply.new.charge c.multiply-2.new.charge c.multiply-3.new.charge c.in_ok-first.first c.multiply-3.result c.in_ok-first.ensures.continues.alphabet (c.in_ok-first.ensures.evaluates _ t h2 x3) (λ h3.
    (c.multiply-3.ensures.evaluates _ u h3 y4)))))

use Rattle.std.proofs.lemmas.Result.{err_from_is_err_and}
use Rattle.fr_eval.proofs.OrderLaws.{order_halts, order_gives_up, order_found}
use Rattle.fr_eval.proofs.order.order.Goals as goal

pub returns-in_err-exponent-clause-concludes : goal.returns-in_err-exponent-clause-concludes
returns-in_err-exponent-clause-concludes g c = λ t s.
    let p = err_from_is_err_and c.from_residual.result c.from_residual.ensures.1 in
    let view = g.S.Store.view in
    rw (p.1, p.2) (order_halts view g.met.S.Store.kin_onward (view.alphabet c.args.store.now) t c.args.most c.args.store.now c.find_order.new.store c.args.charge.now c.find_order.new.charge c.args.out.now.items c.in_err-exponent.field-0.0 (c.in_err-exponent.ensures.finds t s))

pub returns-in_err-push_order-clause-concludes : goal.returns-in_err-push_order-clause-concludes
returns-in_err-push_order-clause-concludes g c = λ t s.
    let p = err_from_is_err_and c.from_residual-in_err-push_order.result c.from_residual-in_err-push_order.ensures.1 in
    let view = g.S.Store.view in
    rw (p.1, p.2) (order_gives_up view g.met.S.Store.kin_onward (view.alphabet c.args.store.now) t c.args.most c.args.store.now c.find_order.new.store c.args.charge.now c.find_order.new.charge c.args.out.now.items c.push_order.new.out.items c.in_ok-exponent.exponent (c.in_ok-exponent.ensures.finds t s))

pub returns-clause-concludes : goal.returns-clause-concludes
returns-clause-concludes g c = λ t s.
    let view = g.S.Store.view in
    order_found view g.met.S.Store.kin_onward (view.alphabet c.args.store.now) t c.args.most c.args.store.now c.find_order.new.store c.args.charge.now c.find_order.new.charge c.args.out.now.items c.push_order.new.out.items c.in_ok-exponent.exponent (c.in_ok-exponent.ensures.finds t s) c.in_ok-push_order.ensures

use Rattle.std.proofs.Common.{ℕ, ◌≤◌, ◌/◌, subst, sym, ◌∙◌, arith, Err, Ok}
use Rattle.std.proofs.lemmas.Result.{err_from_is_err_and}
use Rattle.fr_store.specs.Store.{Stands, StandsForTerm}
use Rattle.fr_store.proofs.StoreLaws.{stands_keeps}
use Rattle.fr_plain.specs.Expansions.{Expansion, power_of, product_of}
use Rattle.fr_expr.specs.Evaluation.{Evaluates}
use Rattle.fr_expr.proofs.EvaluationLaws.{goes_from, stops, stays}
use Rattle.fr_expr.proofs.PowerLaws.{after_half, after_square, power-half, even_square, odd_square}
use Rattle.fr_expr.proofs.power.+power.Goals as goal

pub returns-in_err-half-clause-evaluates : goal.returns-in_err-half-clause-evaluates
returns-in_err-half-clause-evaluates g _ c = λ t s.
    let p = err_from_is_err_and c.from_residual.result c.from_residual.ensures.1 in
    let view = g.S.Store.view in
    let d = view.alphabet c.args.store.now in
    let two : 2 ≤ c.args.k = omega (arith, c.requires.least, c.if-k-eq1.false) in
    rw (p.1, p.2)
    (subst (λ (x : Expansion). Evaluates view d c.args.store.now c.power.new.store c.args.charge.now c.power.new.charge x (Err c.in_err-half.field-0.0)) (sym (power-half t c.args.k two))
    (stops view g.met.S.Store.kin_onward d (power_of t (c.args.k / 2)) (after_half t c.args.k) c.args.store.now c.power.new.store c.args.charge.now c.power.new.charge c.in_err-half.field-0.0 (c.in_err-half.ensures.evaluates t s)))

pub returns-in_err-square-clause-evaluates : goal.returns-in_err-square-clause-evaluates
returns-in_err-square-clause-evaluates g _ c = λ t s.
    let p = err_from_is_err_and c.from_residual-in_err-square.result c.from_residual-in_err-square.ensures.1 in
    let view = g.S.Store.view in
    let on = g.met.S.Store.kin_onward in
    let d = view.alphabet c.args.store.now in
    let mid = c.power.new.store in
    let new = c.multiply.new.store in
    let two : 2 ≤ c.args.k = omega (arith, c.requires.least, c.if-k-eq1.false) in
    rw (p.1, p.2)
    (subst (λ (x : Expansion). Evaluates view d c.args.store.now new c.args.charge.now c.multiply.new.charge x (Err c.in_err-square.field-0.0)) (sym (power-half t c.args.k two))
    (goes_from view on d (power_of t (c.args.k / 2)) (after_half t c.args.k) c.args.store.now mid new c.args.charge.now c.power.new.charge c.multiply.new.charge c.in_ok-half.half (Err c.in_err-square.field-0.0)
    c.in_ok-half.ensures.continues.alphabet (c.in_ok-half.ensures.evaluates t s) (λ h.
    stops view on (view.alphabet mid) (product_of _ _) (after_square t c.args.k) mid new c.power.new.charge c.multiply.new.charge c.in_err-square.field-0.0 (c.in_err-square.ensures.evaluates _ _ h h))))

pub returns-then-k-eq0-clause-evaluates : goal.returns-then-k-eq0-clause-evaluates
returns-then-k-eq0-clause-evaluates g _ c = λ t s.
    let view = g.S.Store.view in
    let on = g.met.S.Store.kin_onward in
    let d = view.alphabet c.args.store.now in
    let mid = c.power.new.store in
    let new = c.multiply.new.store in
    let two : 2 ≤ c.args.k = omega (arith, c.requires.least, c.if-k-eq1.false) in
    subst (λ (x : Expansion). Evaluates view d c.args.store.now new c.args.charge.now c.multiply.new.charge x (Ok c.in_ok-square.square)) (sym (power-half t c.args.k two))
    (goes_from view on d (power_of t (c.args.k / 2)) (after_half t c.args.k) c.args.store.now mid new c.args.charge.now c.power.new.charge c.multiply.new.charge c.in_ok-half.half (Ok c.in_ok-square.square)
    c.in_ok-half.ensures.continues.alphabet (c.in_ok-half.ensures.evaluates t s) (λ h.
    goes_from view on (view.alphabet mid) (product_of (power_of t (c.args.k / 2)).value (power_of t (c.args.k / 2)).value) (after_square t c.args.k) mid new new c.power.new.charge c.multiply.new.charge c.multiply.new.charge c.in_ok-square.square (Ok c.in_ok-square.square)
    c.in_ok-square.ensures.continues.alphabet (c.in_ok-square.ensures.evaluates _ _ h h) (λ q.
    subst (λ (x : Expansion). Evaluates view (view.alphabet new) new new c.multiply.new.charge c.multiply.new.charge x (Ok c.in_ok-square.square)) (even_square t c.args.k _ c.if-k-eq0.true)
    (stays view on (view.alphabet new) _ new c.multiply.new.charge c.in_ok-square.square (g.met.S.Store.kin_to_self new) q))))

pub returns-clause-evaluates : goal.returns-clause-evaluates
returns-clause-evaluates g _ c = λ t s.
    let view = g.S.Store.view in
    let on = g.met.S.Store.kin_onward in
    let old = c.args.store.now in
    let d = view.alphabet old in
    let mid = c.power.new.store in
    let new = c.multiply.new.store in
    let far = c.multiply-2.new.store in
    let two : 2 ≤ c.args.k = omega (arith, c.requires.least, c.if-k-eq1.false) in
    let over = c.in_ok-square.ensures.continues.alphabet ∙ c.in_ok-half.ensures.continues.alphabet in
    let still : Stands view new c.args.a t = subst (λ (k : ℕ). StandsForTerm k (view.known new) c.args.a t) (sym over)
    (stands_keeps d (view.known mid) (view.known new) c.args.a t c.in_ok-square.ensures.keeps (stands_keeps d (view.known old) (view.known mid) c.args.a t c.in_ok-half.ensures.keeps s)) in
    subst (λ (x : Expansion). Evaluates view d old far c.args.charge.now c.multiply-2.new.charge x c.multiply-2.result) (sym (power-half t c.args.k two))
    (goes_from view on d (power_of t (c.args.k / 2)) (after_half t c.args.k) old mid far c.args.charge.now c.power.new.charge c.multiply-2.new.charge c.in_ok-half.half c.multiply-2.result
    c.in_ok-half.ensures.continues.alphabet (c.in_ok-half.ensures.evaluates t s) (λ h.
    goes_from view on (view.alphabet mid) (product_of (power_of t (c.args.k / 2)).value (power_of t (c.args.k / 2)).value) (after_square t c.args.k) mid new far c.power.new.charge c.multiply.new.charge c.multiply-2.new.charge c.in_ok-square.square c.multiply-2.result
    c.in_ok-square.ensures.continues.alphabet (c.in_ok-square.ensures.evaluates _ _ h h) (λ q.
    subst (λ (x : Expansion). Evaluates view (view.alphabet new) new far c.multiply.new.charge c.multiply-2.new.charge x c.multiply-2.result) (odd_square t c.args.k _ c.if-k-eq0.false)
    (c.multiply-2.ensures.evaluates _ t q still))))

use Rattle.std.proofs.Common.{ℕ, ◌+◌, length, sym, ◌∙◌, subst, arith, Ok, Err}
use Rattle.std.proofs.lemmas.Result.{err_from_is_err_and}
use Rattle.fr_model.specs.Terms.{Term, Product, IsTerm}
use Rattle.fr_model.specs.Classes.{IsSize}
use Rattle.fr_store.specs.declared.handle.Handle.{Handle}
use Rattle.fr_store.specs.Store.{StandsForTerm, Stands, AreHandles}
use Rattle.fr_store.proofs.StoreLaws.{stands_same, stands_keeps, IsKnown-term, AreHandles-back, Reads-trans}
use Rattle.fr_plain.specs.Steps.{Multiplied, IsCharged}
use Rattle.fr_plain.specs.Expansions.{product_of}
use Rattle.fr_expr.specs.Evaluation.{Evaluates, Multiplies}
use Rattle.fr_expr.proofs.EvaluationLaws.{one_step, before_reads, after_reads, product_stops}
use Rattle.fr_expr.proofs.steps.multiply.Goals as goal

pub returns-in-Some-clause-evaluates : goal.returns-in-Some-clause-evaluates
returns-in-Some-clause-evaluates g c = λ t u x y.
    let view = g.S.Store.view in
    let d = view.alphabet c.args.store.now in
    let mid = c.recall.new.self in
    let r = c.in-Some.ensures.product t u x y in
    let here : Stands view mid c.in-Some.h (Product t u) = subst (λ (k : ℕ). StandsForTerm k (view.known mid) c.in-Some.h (Product t u)) (sym c.in-Some.ensures.continues.alphabet) r.handle in
    let size = subst (λ (k : ℕ). IsSize k (Product t u) c.states.result) c.in-Some.ensures.continues.alphabet (c.states.ensures.size (Product t u) here) in
    before_reads view g.met.S.Store.kin_onward d (product_of t u) c.args.store.now mid c.states.new.self c.args.charge.now (c.args.charge.now + c.states.result) c.in-Some.h
    (one_step view g.met.S.Store.kin_onward d (Multiplied t u) c.args.store.now mid c.args.charge.now c.states.result c.in-Some.h r.grows r.handle (r.few, (c.states.ensures.most, size))
    (omega (arith, c.in-Some.ensures.own)) c.in-Some.ensures.continues)
    c.states.ensures.reads

pub returns-in_err-m-clause-evaluates : goal.returns-in_err-m-clause-evaluates
returns-in_err-m-clause-evaluates g c = λ t u x y.
    let p = err_from_is_err_and c.from_residual.result c.from_residual.ensures.1 in
    let view = g.S.Store.view in
    let d = view.alphabet c.args.store.now in
    let first = c.in_default.ensures.none in
    let stays : (h : Handle) (v : Term) → Stands view c.args.store.now h v → Stands view c.recall.new.self h v = λ h v s.
    subst (λ (k : ℕ). StandsForTerm k (view.known c.recall.new.self) h v) (sym first.continues.alphabet) (stands_same d (view.known c.args.store.now) (view.known c.recall.new.self) h v first.known s) in
    let is = subst (λ (k : ℕ). Multiplies k t u (Err c.in_err-m.field-0.0)) first.continues.alphabet (c.in_err-m.ensures.multiplies t u (stays c.args.a t x) (stays c.args.b u y)) in
    rw (p.1, p.2)
    (product_stops view g.met.S.Store.kin_onward d t u c.args.store.now c.product_machine.new.store c.args.charge.now c.in_err-m.field-0.0
    (Reads-trans view g.met.S.Store.kin_onward c.args.store.now c.recall.new.self c.product_machine.new.store first c.in_err-m.ensures.reads) is)

pub returns-in_err-h-clause-evaluates : goal.returns-in_err-h-clause-evaluates
returns-in_err-h-clause-evaluates g c = λ t u x y.
    let p = err_from_is_err_and c.from_residual-in_err-h.result c.from_residual-in_err-h.ensures.1 in
    let view = g.S.Store.view in
    let d = view.alphabet c.args.store.now in
    let far = c.product_machine.new.store in
    let first = c.in_default.ensures.none in
    let reads = Reads-trans view g.met.S.Store.kin_onward c.args.store.now c.recall.new.self far first c.in_ok-m.ensures.reads in
    let stays : (h : Handle) (v : Term) → Stands view c.args.store.now h v → Stands view c.recall.new.self h v = λ h v s.
    subst (λ (k : ℕ). StandsForTerm k (view.known c.recall.new.self) h v) (sym first.continues.alphabet) (stands_same d (view.known c.args.store.now) (view.known c.recall.new.self) h v first.known s) in
    let made = c.in_ok-m.ensures.multiplies t u (stays c.args.a t x) (stays c.args.b u y) in
    let charged = subst (λ (k : ℕ). IsCharged k (Multiplied t u) (length c.in_ok-m.m.rows)) (sym c.in_ok-m.ensures.reads.continues.alphabet) made.0 in
    let valid = subst (λ (k : ℕ). IsTerm k (Product t u)) (sym reads.continues.alphabet) (x.term, y.term) in
    let e = c.in_err-h.ensures.evaluates (Multiplied t u) valid made.1 charged in
    rw (p.1, p.2)
    (after_reads view g.met.S.Store.kin_onward d (product_of t u) c.args.store.now far c.enter.new.store c.args.charge.now c.enter.new.charge (Err c.in_err-h.field-0.0) reads
    (subst (λ (k : ℕ). Evaluates view k far c.enter.new.store c.args.charge.now c.enter.new.charge (product_of t u) (Err c.in_err-h.field-0.0)) reads.continues.alphabet e))

-- the product as it was entered
pub remember-requires : goal.remember-requires
remember-requires g c =
    let view = g.S.Store.view in
    let d = view.alphabet c.args.store.now in
    let old = c.args.store.now in
    let far = c.product_machine.new.store in
    let new = c.enter.new.store in
    let first = c.in_default.ensures.none in
    let reads = Reads-trans view g.met.S.Store.kin_onward old c.recall.new.self far first c.in_ok-m.ensures.reads in
    let handles = AreHandles-back d (view.known old) (view.known far) reads.known (subst (λ (k : ℕ). AreHandles k (view.known far)) first.continues.alphabet c.in_ok-m.ensures.handles) in
    let a = IsKnown-term d (view.known old) c.args.a handles c.requires.a_known in
    let b = IsKnown-term d (view.known old) c.args.b handles c.requires.b_known in
    let t = a.0 in
    let u = b.0 in
    let stays : (h : Handle) (v : Term) → Stands view old h v → Stands view c.recall.new.self h v = λ h v s.
    subst (λ (k : ℕ). StandsForTerm k (view.known c.recall.new.self) h v) (sym first.continues.alphabet) (stands_same d (view.known old) (view.known c.recall.new.self) h v first.known s) in
    let made = c.in_ok-m.ensures.multiplies t u (stays c.args.a t a.1) (stays c.args.b u b.1) in
    let charged = subst (λ (k : ℕ). IsCharged k (Multiplied t u) (length c.in_ok-m.m.rows)) (sym c.in_ok-m.ensures.reads.continues.alphabet) made.0 in
    let valid = subst (λ (k : ℕ). IsTerm k (Product t u)) (sym reads.continues.alphabet) (a.1.term, b.1.term) in
    let e = c.in_ok-h.ensures.evaluates (Multiplied t u) valid made.1 charged in
    let over = c.in_ok-h.ensures.continues.alphabet in
    let keeps : (h : Handle) (v : Term) → Stands view old h v → StandsForTerm (view.alphabet new) (view.known new) h v = λ h v s.
    subst (λ (k : ℕ). StandsForTerm k (view.known new) h v) (sym (over ∙ reads.continues.alphabet))
    (stands_keeps d (view.known far) (view.known new) h v c.in_ok-h.ensures.keeps (stands_same d (view.known old) (view.known far) h v reads.known s)) in
    let few = subst (λ (k : ℕ). IsCharged k (Multiplied t u) (length c.in_ok-m.m.rows)) (sym over) charged in
    record {
      first = t;
      second = u;
      first_at = keeps c.args.a t a.1;
      second_at = keeps c.args.b u b.1;
      product_at = subst (λ (k : ℕ). StandsForTerm k (view.known new) c.in_ok-h.h (Product t u)) (sym over) e.handle;
      few = few.0;
    }

pub returns-clause-evaluates : goal.returns-clause-evaluates
returns-clause-evaluates g c = λ t u x y.
    let view = g.S.Store.view in
    let d = view.alphabet c.args.store.now in
    let old = c.args.store.now in
    let far = c.product_machine.new.store in
    let new = c.enter.new.store in
    let first = c.in_default.ensures.none in
    let reads = Reads-trans view g.met.S.Store.kin_onward old c.recall.new.self far first c.in_ok-m.ensures.reads in
    let stays : (h : Handle) (v : Term) → Stands view old h v → Stands view c.recall.new.self h v = λ h v s.
    subst (λ (k : ℕ). StandsForTerm k (view.known c.recall.new.self) h v) (sym first.continues.alphabet) (stands_same d (view.known old) (view.known c.recall.new.self) h v first.known s) in
    let made = c.in_ok-m.ensures.multiplies t u (stays c.args.a t x) (stays c.args.b u y) in
    let charged = subst (λ (k : ℕ). IsCharged k (Multiplied t u) (length c.in_ok-m.m.rows)) (sym c.in_ok-m.ensures.reads.continues.alphabet) made.0 in
    let valid = subst (λ (k : ℕ). IsTerm k (Product t u)) (sym reads.continues.alphabet) (x.term, y.term) in
    let e = c.in_ok-h.ensures.evaluates (Multiplied t u) valid made.1 charged in
    let here = subst (λ (k : ℕ). Evaluates view k far new c.args.charge.now c.enter.new.charge (product_of t u) (Ok c.in_ok-h.h)) reads.continues.alphabet e in
    before_reads view g.met.S.Store.kin_onward d (product_of t u) old new c.remember.new.self c.args.charge.now c.enter.new.charge c.in_ok-h.h
    (after_reads view g.met.S.Store.kin_onward d (product_of t u) old far new c.args.charge.now c.enter.new.charge (Ok c.in_ok-h.h) reads here)
    c.remember.ensures

use Rattle.std.proofs.Common.{ℕ, ◌≡◌, ◌+◌, sym, ◌∙◌, subst, arith, inl, Ok, Err}
use Rattle.std.proofs.lemmas.Result.{err_from_is_err_and}
use Rattle.fr_model.specs.Terms.{Term, Inverse}
use Rattle.fr_model.specs.Classes.{IsSize}
use Rattle.fr_store.specs.declared.handle.Handle.{Handle}
use Rattle.fr_store.specs.Store.{StandsForTerm, Stands, AreHandles}
use Rattle.fr_store.proofs.StoreLaws.{stands_same, stands_keeps, IsKnown-term, AreHandles-back}
use Rattle.fr_plain.specs.Steps.{Inverted}
use Rattle.fr_plain.specs.Expansions.{inverse_of}
use Rattle.fr_expr.specs.Evaluation.{Evaluates}
use Rattle.fr_expr.proofs.EvaluationLaws.{one_step, before_reads, after_reads}
use Rattle.fr_expr.proofs.steps.invert.Goals as goal

pub returns-in-Some-clause-evaluates : goal.returns-in-Some-clause-evaluates
returns-in-Some-clause-evaluates g c = λ t x.
    let view = g.S.Store.view in
    let d = view.alphabet c.args.store.now in
    let mid = c.recall_inverse.new.self in
    let reads = c.in-Some.ensures.reads in
    let r = c.in-Some.ensures.inverse t x in
    let here : Stands view mid c.in-Some.h (Inverse t) = subst (λ (k : ℕ). StandsForTerm k (view.known mid) c.in-Some.h (Inverse t)) (sym reads.continues.alphabet) r in
    let size = subst (λ (k : ℕ). IsSize k (Inverse t) c.states.result) reads.continues.alphabet (c.states.ensures.size (Inverse t) here) in
    before_reads view g.met.S.Store.kin_onward d (inverse_of t) c.args.store.now mid c.states.new.self c.args.charge.now (c.args.charge.now + c.states.result) c.in-Some.h
    (one_step view g.met.S.Store.kin_onward d (Inverted t) c.args.store.now mid c.args.charge.now c.states.result c.in-Some.h
    (record { keeps = λ n code k. reads.known n ∙ k; only = λ n code e. inl (sym (reads.known n) ∙ e) }) r size
    (omega (arith, reads.own)) reads.continues)
    c.states.ensures.reads

pub returns-in_err-h-clause-evaluates : goal.returns-in_err-h-clause-evaluates
returns-in_err-h-clause-evaluates g c = λ t x.
    let p = err_from_is_err_and c.from_residual.result c.from_residual.ensures.1 in
    let view = g.S.Store.view in
    let old = c.args.store.now in
    let d = view.alphabet old in
    let mid = c.recall_inverse.new.self in
    let new = c.made_inverse.new.store in
    let reads = c.in_default.ensures.reads in
    let here = subst (λ (k : ℕ). StandsForTerm k (view.known mid) c.args.a t) (sym reads.continues.alphabet) (stands_same d (view.known old) (view.known mid) c.args.a t reads.known x) in
    let e = c.in_err-h.ensures.evaluates t here in
    rw (p.1, p.2)
    (after_reads view g.met.S.Store.kin_onward d (inverse_of t) old mid new c.args.charge.now c.made_inverse.new.charge (Err c.in_err-h.field-0.0) reads
    (subst (λ (k : ℕ). Evaluates view k mid new c.args.charge.now c.made_inverse.new.charge (inverse_of t) (Err c.in_err-h.field-0.0)) reads.continues.alphabet e))

-- the inverse as it was entered
pub remember_inverse-requires : goal.remember_inverse-requires
remember_inverse-requires g c =
    let view = g.S.Store.view in
    let old = c.args.store.now in
    let d = view.alphabet old in
    let mid = c.recall_inverse.new.self in
    let new = c.made_inverse.new.store in
    let reads = c.in_default.ensures.reads in
    let handles = AreHandles-back d (view.known old) (view.known mid) reads.known c.in_default.ensures.handles in
    let a = IsKnown-term d (view.known old) c.args.a handles c.requires.known in
    let there = stands_same d (view.known old) (view.known mid) c.args.a a.0 reads.known a.1 in
    let here = subst (λ (k : ℕ). StandsForTerm k (view.known mid) c.args.a a.0) (sym reads.continues.alphabet) there in
    let e = c.in_ok-h.ensures.evaluates a.0 here in
    let over = c.in_ok-h.ensures.continues.alphabet in
    record {
      element = a.0;
      element_at = subst (λ (k : ℕ). StandsForTerm k (view.known new) c.args.a a.0) (sym (over ∙ reads.continues.alphabet)) (stands_keeps d (view.known mid) (view.known new) c.args.a a.0 c.in_ok-h.ensures.keeps there);
      inverse_at = subst (λ (k : ℕ). StandsForTerm k (view.known new) c.in_ok-h.h (Inverse a.0)) (sym over) e.handle;
    }

pub returns-clause-evaluates : goal.returns-clause-evaluates
returns-clause-evaluates g c = λ t x.
    let view = g.S.Store.view in
    let old = c.args.store.now in
    let d = view.alphabet old in
    let mid = c.recall_inverse.new.self in
    let new = c.made_inverse.new.store in
    let reads = c.in_default.ensures.reads in
    let here = subst (λ (k : ℕ). StandsForTerm k (view.known mid) c.args.a t) (sym reads.continues.alphabet) (stands_same d (view.known old) (view.known mid) c.args.a t reads.known x) in
    let e = subst (λ (k : ℕ). Evaluates view k mid new c.args.charge.now c.made_inverse.new.charge (inverse_of t) (Ok c.in_ok-h.h)) reads.continues.alphabet (c.in_ok-h.ensures.evaluates t here) in
    before_reads view g.met.S.Store.kin_onward d (inverse_of t) old new c.remember_inverse.new.self c.args.charge.now c.made_inverse.new.charge c.in_ok-h.h
    (after_reads view g.met.S.Store.kin_onward d (inverse_of t) old mid new c.args.charge.now c.made_inverse.new.charge (Ok c.in_ok-h.h) reads e)
    c.remember_inverse.ensures

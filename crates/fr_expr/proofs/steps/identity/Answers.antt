use Rattle.std.proofs.Common.{ℕ, refl, sym, ◌∙◌, subst, arith, inl, Ok, Err}
use Rattle.std.proofs.lemmas.Result.{err_from_is_err_and}
use Rattle.fr_model.specs.Terms.{One}
use Rattle.fr_store.specs.Store.{StandsForTerm}
use Rattle.fr_plain.specs.Steps.{Identity}
use Rattle.fr_plain.specs.Expansions.{step}
use Rattle.fr_expr.specs.Evaluation.{Evaluates}
use Rattle.fr_expr.proofs.EvaluationLaws.{one_step, before_reads, after_reads}
use Rattle.fr_expr.proofs.steps.identity.Goals as goal

pub returns-in-Some-clause-evaluates : goal.returns-in-Some-clause-evaluates
returns-in-Some-clause-evaluates g c =
    let view = g.S.Store.view in
    let d = view.alphabet c.args.store.now in
    let reads = c.in-Some.ensures.reads in
    one_step view g.met.S.Store.kin_onward d Identity c.args.store.now c.recall_identity.new.self c.args.charge.now 1 c.in-Some.h
    (record { keeps = λ n code k. reads.known n ∙ k; only = λ n code e. inl (sym (reads.known n) ∙ e) }) c.in-Some.ensures.identity refl
    (omega (arith, reads.own)) reads.continues

pub returns-in_err-h-clause-evaluates : goal.returns-in_err-h-clause-evaluates
returns-in_err-h-clause-evaluates g c =
    let p = err_from_is_err_and c.from_residual.result c.from_residual.ensures.1 in
    let view = g.S.Store.view in
    let old = c.args.store.now in
    let d = view.alphabet old in
    let mid = c.recall_identity.new.self in
    let new = c.made_identity.new.store in
    let reads = c.in_default.ensures.reads in
    rw (p.1, p.2)
    (after_reads view g.met.S.Store.kin_onward d (step Identity) old mid new c.args.charge.now c.made_identity.new.charge (Err c.in_err-h.field-0.0) reads
    (subst (λ (k : ℕ). Evaluates view k mid new c.args.charge.now c.made_identity.new.charge (step Identity) (Err c.in_err-h.field-0.0)) reads.continues.alphabet c.in_err-h.ensures.evaluates))

-- the identity as it was entered
pub remember_identity-requires : goal.remember_identity-requires
remember_identity-requires g c =
    let view = g.S.Store.view in
    let new = c.made_identity.new.store in
    subst (λ (k : ℕ). StandsForTerm k (view.known new) c.in_ok-h.h One) (sym c.in_ok-h.ensures.continues.alphabet) c.in_ok-h.ensures.evaluates.handle

pub returns-clause-evaluates : goal.returns-clause-evaluates
returns-clause-evaluates g c =
    let view = g.S.Store.view in
    let old = c.args.store.now in
    let d = view.alphabet old in
    let mid = c.recall_identity.new.self in
    let new = c.made_identity.new.store in
    let reads = c.in_default.ensures.reads in
    let e = subst (λ (k : ℕ). Evaluates view k mid new c.args.charge.now c.made_identity.new.charge (step Identity) (Ok c.in_ok-h.h)) reads.continues.alphabet c.in_ok-h.ensures.evaluates in
    before_reads view g.met.S.Store.kin_onward d (step Identity) old new c.remember_identity.new.self c.args.charge.now c.made_identity.new.charge c.in_ok-h.h
    (after_reads view g.met.S.Store.kin_onward d (step Identity) old mid new c.args.charge.now c.made_identity.new.charge (Ok c.in_ok-h.h) reads e)
    c.remember_identity.ensures

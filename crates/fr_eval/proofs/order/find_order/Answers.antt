use Rattle.std.proofs.Common.{ℕ, suc, ◌≡◌, ◌+◌, ◌<◌, inl, inr, Ok, Err, refl, sym, ◌∙◌, subst, arith}
use Rattle.std.proofs.lemmas.Result.{err_from_is_err_and}
use Rattle.fr_model.specs.Terms.{One, IsAlike}
use Rattle.fr_store.specs.Store.{StandsForTerm, Stands}
use Rattle.fr_store.proofs.StoreLaws.{Keeps-same, Keeps-trans, Continues-trans, IsKnown-keeps}
use Rattle.fr_plain.specs.Expansions.{product_of}
use Rattle.fr_plain.specs.Answers.{power}
use Rattle.fr_expr.specs.Evaluation.{Evaluates}
use Rattle.fr_expr.proofs.EvaluationLaws.{Makes-none, Reads-none, carries}
use Rattle.fr_eval.proofs.OrderLaws.{IsAtPower, not_true, none_more, power_read, power_made, power_stops}
use Rattle.fr_eval.proofs.order.find_order.Goals as goal

pub returns-then-most-eq0-clause-finds : goal.returns-then-most-eq0-clause-finds
returns-then-most-eq0-clause-finds g c = λ t s.
    let view = g.S.Store.view in
    let old = c.args.store.now in (
      0,
      inr (c.if-most-eq0.true, refl),
      λ j l. absurd (omega (arith, l, c.if-most-eq0.true)),
      Makes-none view g.met.S.Store.kin_onward (view.alphabet old) old old c.args.charge.now (Reads-none view g.met.S.Store.kin_to_self old),
    )

pub returns-then-is_identity-clause-finds : goal.returns-then-is_identity-clause-finds
returns-then-is_identity-clause-finds g c = λ t s.
    let view = g.S.Store.view in
    let on = g.met.S.Store.kin_onward in
    let d = view.alphabet c.args.store.now in
    let old = c.args.store.now in
    let now = c.loop-k.store in
    let k = c.loop-k.k in
    let h = c.loop-k.power in
    let inv = c.loop-k.invariant in
    let a = inv.at t s in
    let there : Stands view now h (power t k) = subst (λ (n : ℕ). StandsForTerm n (view.known now) h (power t k)) (sym inv.continues.alphabet) a.stands in
    let mid = c.is_identity.new.store in
    let reads = c.is_identity.ensures.reads in
    let b = power_read view on d t c.args.most old now c.args.charge.now c.loop-k.charge k h mid reads a in
    (k, omega arith, omega (arith, c.loop-k-test.true), a.none, (c.if-is_identity.ensures.identity (power t k) there).0 refl, b.makes)

pub returns-in_err-power-clause-finds : goal.returns-in_err-power-clause-finds
returns-in_err-power-clause-finds g c = λ t s.
    let p = err_from_is_err_and c.from_residual.result c.from_residual.ensures.1 in
    let view = g.S.Store.view in
    let on = g.met.S.Store.kin_onward in
    let d = view.alphabet c.args.store.now in
    let old = c.args.store.now in
    let now = c.loop-k.store in
    let k = c.loop-k.k in
    let h = c.loop-k.power in
    let inv = c.loop-k.invariant in
    let a = inv.at t s in
    let there : Stands view now h (power t k) = subst (λ (n : ℕ). StandsForTerm n (view.known now) h (power t k)) (sym inv.continues.alphabet) a.stands in
    let mid = c.is_identity.new.store in
    let new = c.multiply.new.store in
    let reads = c.is_identity.ensures.reads in
    let b = power_read view on d t c.args.most old now c.args.charge.now c.loop-k.charge k h mid reads a in
    let over = reads.continues.alphabet ∙ inv.continues.alphabet in
    let first : Stands view mid h (power t k) = subst (λ (n : ℕ). StandsForTerm n (view.known mid) h (power t k)) (sym over) b.stands in
    let second : Stands view mid c.args.h t = carries view old mid c.args.h t (Continues-trans view on old now mid inv.continues reads.continues) (Keeps-trans (view.known old) (view.known now) (view.known mid) inv.keeps (Keeps-same (view.known now) (view.known mid) reads.known)) s in
    let no : ¬ IsAlike (power t k) One = λ same. not_true ((c.if-is_identity.ensures.identity (power t k) there).1 same) in
    let v = subst (λ (n : ℕ). Evaluates view n mid new c.loop-k.charge c.multiply.new.charge (product_of (power t k) t) (Err c.in_err-power.field-0.0)) over (c.in_err-power.ensures.evaluates (power t k) t first second) in
    rw (p.1, p.2) (power_stops view on d t c.args.most old mid c.args.charge.now c.loop-k.charge k h new c.multiply.new.charge c.in_err-power.field-0.0 b no (omega (arith, c.loop-k-test.true)) v)

pub loop-k-preserved : goal.loop-k-preserved
loop-k-preserved g c =
    let view = g.S.Store.view in
    let on = g.met.S.Store.kin_onward in
    let old = c.args.store.now in
    let now = c.loop-k.store in
    let mid = c.is_identity.new.store in
    let new = c.multiply.new.store in
    let inv = c.loop-k.invariant in
    let reads = c.is_identity.ensures.reads in
    let e = c.in_ok-power.ensures in
    let keeps_mid = Keeps-trans (view.known old) (view.known now) (view.known mid) inv.keeps (Keeps-same (view.known now) (view.known mid) reads.known) in
    record {
      known = e.known;
      base = IsKnown-keeps (view.known mid) (view.known new) c.args.h e.keeps (IsKnown-keeps (view.known now) (view.known mid) c.args.h (Keeps-same (view.known now) (view.known mid) reads.known) inv.base);
      keeps = Keeps-trans (view.known old) (view.known mid) (view.known new) keeps_mid e.keeps;
      continues = Continues-trans view on old mid new (Continues-trans view on old now mid inv.continues reads.continues) e.continues;
      charged = omega (arith, e.most, inv.charged);
      at = λ t s.
          let d = view.alphabet c.args.store.now in
          let k = c.loop-k.k in
          let h = c.loop-k.power in
          let a = inv.at t s in
          let there : Stands view now h (power t k) = subst (λ (n : ℕ). StandsForTerm n (view.known now) h (power t k)) (sym inv.continues.alphabet) a.stands in
          let b = power_read view on d t c.args.most old now c.args.charge.now c.loop-k.charge k h mid reads a in
          let over = reads.continues.alphabet ∙ inv.continues.alphabet in
          let first : Stands view mid h (power t k) = subst (λ (n : ℕ). StandsForTerm n (view.known mid) h (power t k)) (sym over) b.stands in
          let second : Stands view mid c.args.h t = carries view old mid c.args.h t (Continues-trans view on old now mid inv.continues reads.continues) keeps_mid s in
          let no : ¬ IsAlike (power t k) One = λ same. not_true ((c.if-is_identity.ensures.identity (power t k) there).1 same) in
          let v = subst (λ (n : ℕ). Evaluates view n mid new c.loop-k.charge c.multiply.new.charge (product_of (power t k) t) (Ok c.in_ok-power.power)) over (e.evaluates (power t k) t first second) in
          let P : ℕ → Type 0 = λ (n : ℕ). IsAtPower view d t old new c.args.charge.now c.multiply.new.charge n c.in_ok-power.power in
          let next : suc k ≡ k + 1 = omega arith in
          subst P next (power_made view on d t c.args.most old mid c.args.charge.now c.loop-k.charge k h new c.multiply.new.charge c.in_ok-power.power b no v);
    }

pub returns-then-is_identity-2-clause-finds : goal.returns-then-is_identity-2-clause-finds
returns-then-is_identity-2-clause-finds g c = λ t s.
    let view = g.S.Store.view in
    let on = g.met.S.Store.kin_onward in
    let d = view.alphabet c.args.store.now in
    let old = c.args.store.now in
    let now = c.loop-k.store in
    let k = c.loop-k.k in
    let h = c.loop-k.power in
    let inv = c.loop-k.invariant in
    let a = inv.at t s in
    let there : Stands view now h (power t k) = subst (λ (n : ℕ). StandsForTerm n (view.known now) h (power t k)) (sym inv.continues.alphabet) a.stands in
    let mid = c.is_identity-2.new.store in
    let reads = c.is_identity-2.ensures.reads in
    let b = power_read view on d t c.args.most old now c.args.charge.now c.loop-k.charge k h mid reads a in
    let some : 0 < c.args.most = omega (arith, c.if-most-eq0.false) in
    (k, omega (arith, c.loop-k-test.false, c.loop-k.auto.k-end, some), omega (arith, c.loop-k.auto.k-end, some), a.none, (c.if-is_identity-2.ensures.identity (power t k) there).0 refl, b.makes)

pub returns-else-is_identity-2-clause-finds : goal.returns-else-is_identity-2-clause-finds
returns-else-is_identity-2-clause-finds g c = λ t s.
    let view = g.S.Store.view in
    let on = g.met.S.Store.kin_onward in
    let d = view.alphabet c.args.store.now in
    let old = c.args.store.now in
    let now = c.loop-k.store in
    let k = c.loop-k.k in
    let h = c.loop-k.power in
    let inv = c.loop-k.invariant in
    let a = inv.at t s in
    let there : Stands view now h (power t k) = subst (λ (n : ℕ). StandsForTerm n (view.known now) h (power t k)) (sym inv.continues.alphabet) a.stands in
    let mid = c.is_identity-2.new.store in
    let reads = c.is_identity-2.ensures.reads in
    let b = power_read view on d t c.args.most old now c.args.charge.now c.loop-k.charge k h mid reads a in
    let some : 0 < c.args.most = omega (arith, c.if-most-eq0.false) in
    let last : c.args.most ≡ suc k = omega (arith, c.loop-k-test.false, c.loop-k.auto.k-end, some) in
    let no : ¬ IsAlike (power t k) One = λ same. not_true ((c.if-is_identity-2.ensures.identity (power t k) there).1 same) in
    (k, inl last, λ j l. none_more t k a.none no j (omega (arith, l, last)), b.makes)

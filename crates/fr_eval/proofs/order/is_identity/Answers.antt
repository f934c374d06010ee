use Rattle.std.proofs.Common.{ℕ, ◌≡◌, ◌+◌, ◌≤◌, Bool, IsTrue, ◌∷◌, [], inl, inr, refl, sym, ◌∙◌, ap, subst, arith}
use Rattle.std.proofs.lemmas.Bool.{cases_lt}
use Rattle.fr_model.specs.Words.{IsLetter}
use Rattle.fr_model.specs.Permutations.{image}
use Rattle.fr_model.specs.Terms.{Section, IsAlike}
use Rattle.fr_store.specs.Store.{Stands, StandsForTerm}
use Rattle.fr_store.proofs.StoreLaws.{Keeps-same, Reads-trans, IsKnown-keeps}
use Rattle.fr_expr.proofs.EvaluationLaws.{carries}
use Rattle.fr_eval.proofs.OrderLaws.{identity_from, identity_puts, identity_section, first_letter, not_true}
use Rattle.fr_eval.proofs.order.is_identity.Goals as goal
use Rattle.fr_eval.proofs.order.is_identity.Goals.{then-apply-x-via-then-apply-x, then-apply-x-via-else-apply-x+then-not-equal}

pub returns-then-apply-x-clause-identity : goal.returns-then-apply-x-clause-identity
returns-then-apply-x-clause-identity g c = λ t s.
    let view = g.S.Store.view in
    let old = c.args.store.now in
    let mid = c.loop-x.store in
    let new = c.section-section.new.self in
    let h = c.args.h in
    let x = c.loop-x.x + 1 in
    let r = c.section-section.result in
    let before = c.loop-x.invariant.reads in
    let reads = c.section-section.ensures.reads in
    let letter : IsLetter (view.alphabet old) x = (omega arith, omega (arith, c.loop-x-test.true, c.letters-x-end.ensures.value, c.alphabet.ensures, c.output-perm.ensures.reads.continues.alphabet)) in
    let t_mid : Stands view mid h t = carries view old mid h t before.continues (Keeps-same (view.known old) (view.known mid) before.known) s in
    let t_new : Stands view new h t = carries view mid new h t reads.continues (Keeps-same (view.known mid) (view.known new) reads.known) t_mid in
    let section : Stands view new r (Section t (x ∷ [])) = subst (λ (k : ℕ). StandsForTerm k (view.known new) r (Section t (x ∷ []))) (sym reads.continues.alphabet) (c.section-section.ensures.section t t_mid) in (
      λ no. absurd (not_true no),
      λ one. elim c.then-apply-x.branch [
        | then-apply-x-via-then-apply-x w ↦ absurd (w.if-apply-x.true (c.apply.ensures.value ∙ first_letter (sym (c.output-perm.ensures.images t x s letter) ∙ identity_puts t x one)))
        | then-apply-x-via-else-apply-x+then-not-equal w ↦
            let P : Bool → Type 0 = λ (b : Bool). IsTrue b in
            absurd (not_true (subst P w.if-not-equal.true ((w.equal.ensures.alike (Section t (x ∷ [])) t section t_new).1 (identity_section t x one))))
      ],
    )

pub loop-x-preserved : goal.loop-x-preserved
loop-x-preserved g c =
    let view = g.S.Store.view in
    let old = c.args.store.now in
    let mid = c.loop-x.store in
    let new = c.section-section.new.self in
    let h = c.args.h in
    let x = c.loop-x.x + 1 in
    let r = c.section-section.result in
    let before = c.loop-x.invariant.reads in
    let reads = c.section-section.ensures.reads in
    record {
      known = IsKnown-keeps (view.known mid) (view.known new) h (Keeps-same (view.known mid) (view.known new) reads.known) c.loop-x.invariant.known;
      reads = Reads-trans view g.met.S.Store.kin_onward old mid new before reads;
      puts = λ y l m. elim (cases_lt y x) [
        | inl less ↦ c.loop-x.invariant.puts y l (omega (arith, less))
        | inr most ↦
            let e : y ≡ x = omega (arith, m, most) in
            ap (image c.output-perm.result) e ∙ sym c.apply.ensures.value ∙ c.if-apply-x.false ∙ sym e
      ];
      same = λ t s y l m. elim (cases_lt y x) [
        | inl less ↦ c.loop-x.invariant.same t s y l (omega (arith, less))
        | inr most ↦
            let e : x ≡ y = omega (arith, m, most) in
            let t_mid : Stands view mid h t = carries view old mid h t before.continues (Keeps-same (view.known old) (view.known mid) before.known) s in
            let t_new : Stands view new h t = carries view mid new h t reads.continues (Keeps-same (view.known mid) (view.known new) reads.known) t_mid in
            let section : Stands view new r (Section t (x ∷ [])) = subst (λ (k : ℕ). StandsForTerm k (view.known new) r (Section t (x ∷ []))) (sym reads.continues.alphabet) (c.section-section.ensures.section t t_mid) in
            let Q : ℕ → Type 0 = λ (z : ℕ). IsAlike (Section t (z ∷ [])) t in
            subst Q e ((c.equal.ensures.alike (Section t (x ∷ [])) t section t_new).0 c.if-not-equal.false)
      ];
    }

pub returns-clause-identity : goal.returns-clause-identity
returns-clause-identity g c = λ t s.
    let view = g.S.Store.view in
    let d = view.alphabet c.args.store.now in
    let last : d ≤ c.loop-x.x = omega (arith, c.loop-x-test.false, c.letters-x-end.ensures.value, c.alphabet.ensures, c.output-perm.ensures.reads.continues.alphabet) in (
      λ yes. identity_from d t s.term
          (λ x k. c.output-perm.ensures.images t x s k ∙ ap (λ y. y ∷ []) (c.loop-x.invariant.puts x k.0 (omega (arith, k.1, last))))
          (λ x k. c.loop-x.invariant.same t s x k.0 (omega (arith, k.1, last))),
      λ one. refl,
    )

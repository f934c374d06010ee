use Rattle.std.proofs.Common.{ℕ, ◌∷◌, [], inl, inr, ◌≡◌, subst, arith}
use Rattle.std.proofs.lemmas.Bool.{cases_lt}
use Rattle.fr_model.specs.Words.{IsLetter}
use Rattle.fr_model.specs.Terms.{Section}
use Rattle.fr_model.specs.Separation.{IsSeparatingWord}
use Rattle.fr_store.proofs.StoreLaws.{Reads-trans}
use Rattle.fr_eval.specs.Differences.{AgreeOn}
use Rattle.fr_eval.proofs.DifferenceLaws.{AgreeOn-behind, at_most_one, separates_behind}
use Rattle.fr_eval.proofs.ReadLaws.{stands_after, stands_over}
use Rattle.fr_eval.proofs.differences.different_pair.Goals as goal

pub returns-in-Some-clause-separates : goal.returns-in-Some-clause-separates
returns-in-Some-clause-separates g c = λ t u s r first.
    let view = g.S.Store.view in
    let on = g.met.S.Store.kin_onward in
    let old = c.args.store.now in
    let mid = c.loop-x.store in
    let one = c.section-p.new.self in
    let two = c.section-q.new.self in
    let x = c.loop-x.x in
    let inv = c.loop-x.invariant in
    let below : view.alphabet mid ≡ view.alphabet old = inv.reads.continues.alphabet in
    let before = Reads-trans view on old mid one inv.reads c.section-p.ensures.reads in
    let all = Reads-trans view on old one two before c.section-q.ensures.reads in
    let letter : IsLetter (view.alphabet old) x = (c.loop-x.auto.x, omega (arith, c.loop-x-test.true, c.letters-letters.ensures.value, c.alphabet.ensures)) in
    let left = stands_after view one two c.section-p.result (Section t (x ∷ [])) c.section-q.ensures.reads
    (stands_over view mid one c.section-p.result (Section t (x ∷ [])) c.section-p.ensures.reads (c.section-p.ensures.section t (stands_after view old mid c.args.a t inv.reads s))) in
    let right = stands_over view one two c.section-q.result (Section u (x ∷ [])) c.section-q.ensures.reads (c.section-q.ensures.section u (stands_after view old one c.args.b u before r)) in
    let rest = subst (λ (d : ℕ). IsSeparatingWord d (Section t (x ∷ [])) (Section u (x ∷ [])) (c.in-Some.y ∷ [])) all.continues.alphabet (c.in-Some.ensures.separates (Section t (x ∷ [])) (Section u (x ∷ [])) left right) in
    separates_behind (view.alphabet old) t u x (c.in-Some.y ∷ []) letter first (at_most_one (view.alphabet old) t u first) (inv.agree t u s r) rest

pub loop-x-preserved : goal.loop-x-preserved
loop-x-preserved g c =
    let view = g.S.Store.view in
    let on = g.met.S.Store.kin_onward in
    let old = c.args.store.now in
    let mid = c.loop-x.store in
    let one = c.section-p.new.self in
    let two = c.section-q.new.self in
    let last = c.different_letter.new.store in
    let x = c.loop-x.x in
    let inv = c.loop-x.invariant in
    let before = Reads-trans view on old mid one inv.reads c.section-p.ensures.reads in
    let all = Reads-trans view on old one two before c.section-q.ensures.reads in
    record {
      reads = Reads-trans view on old two last all c.different_letter.ensures.reads;
      agree = λ t u s r y letter m. elim (cases_lt y x) [
        | inl less ↦ inv.agree t u s r y letter less
        | inr most ↦
            let is : x ≡ y = omega (arith, m, most) in
            let left = stands_after view one two c.section-p.result (Section t (x ∷ [])) c.section-q.ensures.reads
            (stands_over view mid one c.section-p.result (Section t (x ∷ [])) c.section-p.ensures.reads (c.section-p.ensures.section t (stands_after view old mid c.args.a t inv.reads s))) in
            let right = stands_over view one two c.section-q.result (Section u (x ∷ [])) c.section-q.ensures.reads (c.section-q.ensures.section u (stands_after view old one c.args.b u before r)) in
            let here : AgreeOn (view.alphabet two) (Section t (x ∷ [])) (Section u (x ∷ [])) 1 = c.in_default.ensures.none (Section t (x ∷ [])) (Section u (x ∷ [])) left right in
            let over : AgreeOn (view.alphabet old) (Section t (x ∷ [])) (Section u (x ∷ [])) 1 = subst (λ (d : ℕ). AgreeOn d (Section t (x ∷ [])) (Section u (x ∷ [])) 1) all.continues.alphabet here in
            subst (λ (z : ℕ). AgreeOn (view.alphabet old) (Section t (z ∷ [])) (Section u (z ∷ [])) 1) is over
      ];
    }

pub returns-clause-none : goal.returns-clause-none
returns-clause-none g c = λ t u s r first.
    let d = g.S.Store.view.alphabet c.args.store.now in
    AgreeOn-behind d t u 1 first (λ x letter. c.loop-x.invariant.agree t u s r x letter (omega (arith, letter.1, c.loop-x-test.false, c.letters-letters.ensures.value, c.alphabet.ensures)))

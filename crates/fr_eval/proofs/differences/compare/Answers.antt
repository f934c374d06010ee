use Rattle.std.proofs.Common.{ℕ, Some, None, ◌∷◌, [], refl, sym, subst}
use Rattle.fr_plain.specs.Answers.{AnswersEq, comparison_text, line_of}
use Rattle.fr_eval.specs.Concluding.{Prints}
use Rattle.fr_eval.specs.Differences.{AgreeOn}
use Rattle.fr_eval.proofs.AnswerLaws.{on_ok}
use Rattle.fr_eval.proofs.ReadLaws.{stands_after}
use Rattle.fr_eval.proofs.differences.compare.Goals as goal

pub returns-then-equal-clause-text : goal.returns-then-equal-clause-text
returns-then-equal-clause-text g c = λ t u s r. (
  line_of (comparison_text t u None),
  record { found = None; separates = (c.equal.ensures.alike t u s r).0 c.if-equal.true; ends = refl },
  c.in_ok-extend_from_slice.ensures.items,
)

pub returns-in-Some-clause-text : goal.returns-in-Some-clause-text
returns-in-Some-clause-text g c =
    let view = g.S.Store.view in
    let old = c.args.store.now in
    let mid = c.different_letter.new.store in
    let w = c.in-Some.x ∷ [] in
    let reads = c.in-Some.ensures.reads in
    on_ok c.push_difference.result
    (λ printed t u s r. (
      line_of (comparison_text t u (Some w)),
      record { found = Some w; separates = c.in-Some.ensures.separates t u s r; ends = refl },
      printed t u (stands_after view old mid c.args.a t reads s) (stands_after view old mid c.args.b u reads r),
    ))
    c.push_difference.ensures.text

pub returns-in-None-clause-text : goal.returns-in-None-clause-text
returns-in-None-clause-text g c =
    let view = g.S.Store.view in
    let old = c.args.store.now in
    let mid = c.different_letter.new.store in
    let reads = c.in-None.ensures.reads in
    on_ok c.compare_behind.result
    (λ text t u s r.
    let first : AgreeOn (view.alphabet mid) t u 1 = subst (λ (d : ℕ). AgreeOn d t u 1) (sym reads.continues.alphabet) (c.in-None.ensures.none t u s r) in
    subst (λ (d : ℕ). Prints (AnswersEq d t u) c.args.out.now.items c.compare_behind.new.out.items) reads.continues.alphabet
    (text t u (stands_after view old mid c.args.a t reads s) (stands_after view old mid c.args.b u reads r) first))
    c.compare_behind.ensures.text

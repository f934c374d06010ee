use Rattle.std.proofs.Common.{ℕ, Some, refl, subst}
use Rattle.fr_plain.specs.Answers.{AnswersEq, comparison_text, line_of}
use Rattle.fr_eval.specs.Concluding.{Prints}
use Rattle.fr_eval.proofs.AnswerLaws.{on_ok}
use Rattle.fr_eval.proofs.ReadLaws.{stands_after}
use Rattle.fr_eval.proofs.differences.compare_behind.Goals as goal

pub returns-in-Some-clause-text : goal.returns-in-Some-clause-text
returns-in-Some-clause-text g c =
    let view = g.S.Store.view in
    let old = c.args.store.now in
    let mid = c.different_pair.new.store in
    let w = c.in-Some.word in
    let reads = c.in-Some.ensures.reads in
    on_ok c.push_difference.result
    (λ printed t u s r first. (
      line_of (comparison_text t u (Some w)),
      record { found = Some w; separates = c.in-Some.ensures.separates t u s r first; ends = refl },
      printed t u (stands_after view old mid c.args.a t reads s) (stands_after view old mid c.args.b u reads r),
    ))
    c.push_difference.ensures.text

pub returns-in-None-clause-text : goal.returns-in-None-clause-text
returns-in-None-clause-text g c =
    let view = g.S.Store.view in
    let old = c.args.store.now in
    let mid = c.different_pair.new.store in
    let reads = c.in-None.ensures.reads in
    on_ok c.compare_machines.result
    (λ text t u s r first.
    subst (λ (d : ℕ). Prints (AnswersEq d t u) c.args.out.now.items c.compare_machines.new.out.items) reads.continues.alphabet
    (text t u (stands_after view old mid c.args.a t reads s) (stands_after view old mid c.args.b u reads r)))
    c.compare_machines.ensures.text

use Rattle.std.proofs.Common.{ℕ, ◌++◌, Some, None, refl, ◌∙◌, ap, subst}
use Rattle.fr_model.specs.Separation.{IsSeparation}
use Rattle.fr_model.proofs.CodeLaws.{separation_alike}
use Rattle.fr_machine.specs.Rows.{row_term}
use Rattle.fr_store.proofs.StoreLaws.{Keeps-same}
use Rattle.fr_expr.proofs.EvaluationLaws.{carries}
use Rattle.fr_plain.specs.Answers.{comparison_text, line_of}
use Rattle.fr_eval.proofs.AnswerLaws.{comparison_text-alike}
use Rattle.fr_eval.proofs.differences.compare_machines.Goals as goal
use Rattle.fr_eval.proofs.differences.compare_machines.Goals.{in-None+in_ok-extend_from_slice-in-None, in-Some+in_ok-push_difference_of_machines-in-Some}

pub returns-clause-text : goal.returns-clause-text
returns-clause-text g c = λ t u s r.
    let view = g.S.Store.view in
    let old = c.args.store.now in
    let mid = c.machine.new.self in
    let d = view.alphabet old in
    let m = c.in_ok-m.m in
    let n = c.in_ok-n.n in
    let reads = c.in_ok-m.ensures.reads in
    let left = c.in_ok-m.ensures.alike t s in
    let right = c.in_ok-n.ensures.alike u (carries view old mid c.args.b u reads.continues (Keeps-same (view.known old) (view.known mid) reads.known) r) in
    let found = c.in_ok-separate.field-0 in
    let separates : IsSeparation d t u found = separation_alike d (row_term m.rows 0) t (row_term n.rows 0) u found left right (subst (λ (k : ℕ). IsSeparation k (row_term m.rows 0) (row_term n.rows 0) found) c.in_ok-m.ensures.alphabet c.in_ok-separate.ensures.answer) in
    elim c.match-branch-4.branch [
      | in-None+in_ok-extend_from_slice-in-None w ↦
          (line_of (comparison_text t u None), record { found = None; separates = subst (IsSeparation d t u) w.in-None.is separates; ends = refl }, ap (λ o. o.items) w.out-is ∙ w.in_ok-extend_from_slice-in-None.ensures.items)
      | in-Some+in_ok-push_difference_of_machines-in-Some w ↦ (
        line_of (comparison_text t u (Some w.in-Some.w)),
        record { found = Some w.in-Some.w; separates = subst (IsSeparation d t u) w.in-Some.is separates; ends = refl },
        ap (λ o. o.items) w.out-is ∙ w.in_ok-push_difference_of_machines-in-Some.ensures ∙ ap (λ x. c.args.out.now.items ++ line_of x) (comparison_text-alike (row_term m.rows 0) t (row_term n.rows 0) u w.in-Some.w left right),
      )
    ]

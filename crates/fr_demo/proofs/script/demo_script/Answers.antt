use Rattle.std.proofs.Common.{◌≡◌, ◌∙◌, ◌+◌, ◌*◌, ◌++◌, count_by, drop, ◌==◌, length, ap, refl, arith, rules}
use Rattle.fr_demo.specs.Demonstration.{state, question, questions, definitions}
use Rattle.fr_demo.proofs.QuestionLaws.{state-after, question-after, grown, demonstration-length, demonstration-lines, demonstration-end}
use Rattle.fr_demo.proofs.script.demo_script.Goals as goal

pub loop-init : goal.loop-init
unfolding state questions
loop-init c = (refl, search rules)

pub loop-preserved : goal.loop-preserved
loop-preserved c =
    let four : 4 * c.loop.counter + 4 ≡ 4 * (c.loop.counter + 1) = omega arith in (
      c.question.ensures.state ∙ ap (λ s. state s 4) c.loop.invariant.0 ∙ state-after c.args.seed (4 * c.loop.counter) 4 ∙ ap (state c.args.seed) four,
      grown c.args.seed c.loop.counter c.loop.script.items c.question.result c.extend_from_slice.new.self.items c.loop.invariant.1
          (c.question.ensures.question ∙ ap (λ s. question s 0) c.loop.invariant.0 ∙ question-after c.args.seed c.loop.counter) c.in_ok-extend_from_slice.ensures.items,
    )

pub returns-clause-bytes : goal.returns-clause-bytes
returns-clause-bytes c =
    let all : c.loop.counter ≡ 1991 = omega arith in
    ap length (c.loop.invariant.1 ∙ ap (λ n. definitions ++ questions c.args.seed n) all) ∙ demonstration-length c.args.seed

pub returns-clause-lines : goal.returns-clause-lines
returns-clause-lines c =
    let all : c.loop.counter ≡ 1991 = omega arith in
    ap (count_by (λ k. k == 10)) (c.loop.invariant.1 ∙ ap (λ n. definitions ++ questions c.args.seed n) all) ∙ demonstration-lines c.args.seed

pub returns-clause-end : goal.returns-clause-end
returns-clause-end c =
    let all : c.loop.counter ≡ 1991 = omega arith in
    ap (drop 21990) (c.loop.invariant.1 ∙ ap (λ n. definitions ++ questions c.args.seed n) all) ∙ demonstration-end c.args.seed

use Rattle.std.proofs.Common.{arith, ◌≡◌, ◌+◌, ◌∷◌, [], ◌++◌, sym, ap, ◌∙◌}
use Rattle.fr_model.specs.Permutations.{numbers_from}
use Rattle.fr_classes.proofs.StartLaws.{numbers_from-push}
use Rattle.fr_classes.proofs.partition.Partition.new.Goals as goal

pub loop-row-preserved : goal.loop-row-preserved
loop-row-preserved c =
    let e : 0 + c.loop-row.row ≡ c.loop-row.row = omega arith in
    c.in_ok-push.ensures.items ∙ ap (λ xs. xs ++ c.loop-row.row ∷ []) c.loop-row.invariant ∙ sym (numbers_from-push 0 c.loop-row.row ∙ ap (λ n. numbers_from 0 c.loop-row.row ++ n ∷ []) e)

pub returns-clause-todo : goal.returns-clause-todo
returns-clause-todo c = c.loop-row.invariant ∙ ap (numbers_from 0) (omega (arith, c.loop-row-test.false, c.loop-row.auto.row-end))

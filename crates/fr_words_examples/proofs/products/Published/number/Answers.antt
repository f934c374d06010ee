use Rattle.std.proofs.Common.{ap, refl, arith}
use Rattle.fr_layout.specs.declared.plan.Plan.{Plan}
use Rattle.fr_words_examples.proofs.products.Published.number.Goals as goal

pub overflow_add-result : goal.overflow_add-result
overflow_add-result c =
    let k = c.requires.2.handles c.args.self.now.row c.requires.0 in
    let small = k.0 in
    let most = c.plan-plan.ensures.plan.most_rows in
    let same = ap (λ (p : Plan). p.capacity) c.plan-plan.ensures.value in
    omega arith

pub returns : goal.returns
returns c =
    let k = c.requires.2.handles c.args.self.now.row c.requires.0 in
    let small = k.0 in
    let most = c.plan-plan.ensures.plan.most_rows in
    let same = ap (λ (p : Plan). p.capacity) c.plan-plan.ensures.value in
    (refl, omega arith)

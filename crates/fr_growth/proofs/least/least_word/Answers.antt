use Rattle.std.proofs.Common.{arith, ◌≡◌, ◌-◌, ◌∙◌, ap, length, ◌++◌}
use Rattle.fr_growth.proofs.WordLaws.{least_empty, least_of, long_of}
use Rattle.fr_growth.proofs.least.least_word.Goals as goal

pub extend-requires-clause-some : goal.extend-requires-clause-some
extend-requires-clause-some c =
    let at : c.len-2.result - 1 ≡ length c.in_ok-sets.sets.items - 1 = omega (arith, c.len-2.ensures, c.in_ok-sets.sets.ok.0) in
    rw at (long_of c.args.m.now.alphabet c.args.m.now.rows c.args.goals.now c.args.from c.nearest-bound.result c.in_ok-sets.sets.items c.nearest-bound.ensures c.in_ok-sets.ensures)

pub returns-clause-word : goal.returns-clause-word
returns-clause-word c =
    let at : c.len-2.result - 1 ≡ length c.in_ok-sets.sets.items - 1 = omega (arith, c.len-2.ensures, c.in_ok-sets.sets.ok.0) in
    let q = c.in_ok-extend.ensures in
    let is = q.1 ∙ ap (λ z. z ++ q.0) c.in_ok-word.ensures.items in
    rw is (least_of c.args.m.now.alphabet c.args.m.now.rows c.args.goals.now c.args.from c.nearest-bound.result c.in_ok-sets.sets.items c.nearest-bound.ensures c.in_ok-sets.ensures q.0 (rw at at q.2))

pub returns-then-goals-from-clause-word : goal.returns-then-goals-from-clause-word
returns-then-goals-from-clause-word c = rw c.new.ensures.items (least_empty c.args.m.now.alphabet c.args.m.now.rows c.args.goals.now c.args.from c.if-goals-from.true)

use Rattle.std.proofs.Common.{take, ℕ, ◌≡◌, ◌+◌, ◌-◌, List, length, drop, arith, ◌∙◌, ap}
use Rattle.std.proofs.lemmas.List.{length-drop, take_all}
use Rattle.fr_model.specs.Ranks.{smaller_in}
use Rattle.fr_alphabet.proofs.RankLaws.{step_fits, step_total, step_factor}
use Rattle.fr_alphabet.proofs.rank.rank_of.Goals as goal

-- the end of the images, as a slice
shown : (images : List ℕ) (i x s : ℕ) → s ≡ smaller_in x (take (length images - i) (drop i images)) → s ≡ smaller_in x (drop i images)
shown images i x s e = e ∙ ap (smaller_in x) (take_all (length images - i) (drop i images) (omega (arith, length-drop i images)))

pub overflow_mul-total : goal.overflow_mul-total
overflow_mul-total c = let z = step_fits c.args.images.now c.loop-i.i c.loop-i.total c.loop-i.factor _ c.requires c.loop-i-test.true c.loop-i.invariant.at c.loop-i.invariant.total c.loop-i.invariant.factor (shown c.args.images.now (c.loop-i.i - 1 + 1) _ _ c.count_below.ensures) in omega (arith, z.0)

pub overflow_add-total : goal.overflow_add-total
overflow_add-total c = let z = step_fits c.args.images.now c.loop-i.i c.loop-i.total c.loop-i.factor _ c.requires c.loop-i-test.true c.loop-i.invariant.at c.loop-i.invariant.total c.loop-i.invariant.factor (shown c.args.images.now (c.loop-i.i - 1 + 1) _ _ c.count_below.ensures) in omega (arith, z.0, z.1)

pub overflow_mul-factor : goal.overflow_mul-factor
overflow_mul-factor c = let z = step_factor c.args.images.now c.loop-i.i c.loop-i.factor c.requires c.loop-i-test.true c.loop-i.invariant.at c.loop-i.invariant.factor in omega (arith, z.0, z.1)

pub loop-i-preserved : goal.loop-i-preserved
loop-i-preserved c = record {
  total = step_total c.args.images.now c.loop-i.i c.loop-i.total c.loop-i.factor _ c.loop-i-test.true c.loop-i.invariant.at c.loop-i.invariant.total c.loop-i.invariant.factor (shown c.args.images.now (c.loop-i.i - 1 + 1) _ _ c.count_below.ensures);
  factor = (step_factor c.args.images.now c.loop-i.i c.loop-i.factor c.requires c.loop-i-test.true c.loop-i.invariant.at c.loop-i.invariant.factor).0;
  at = omega (arith, c.loop-i.invariant.at);
}

use Rattle.std.proofs.Common.{ℕ, suc, ◌-◌, ◌<◌, ◌≤◌, length}
use Rattle.fr_ray.specs.Forms.{IsPeriod}
use Rattle.fr_ray.proofs.form.primitive_period.Given as goal

abbrev pub invariant-loop-p : goal.invariant-loop-p
invariant-loop-p l = record {
  some : 0 < l.p;
  none : (q : ℕ) → q < l.p → ¬ IsPeriod l.letters q;
  best : IsPeriod l.letters l.best;
  least : (q : ℕ) (h : IsPeriod l.letters q) → h.times < l.p → q ≤ 4096 → l.best ≤ q;
}

abbrev pub decreases-loop-p : goal.decreases-loop-p
decreases-loop-p l = suc (length l.letters) - l.p

use Rattle.std.proofs.Common.{ℕ, ◌≡◌, ◌+◌, ◌<◌, ◌≤◌, get_or}
use Rattle.fr_ray.proofs.form.least_beginning.Given as goal

abbrev pub invariant-loop-begin : goal.invariant-loop-begin
invariant-loop-begin l = record {
  within : l.begin ≤ l.start;
  again : (i : ℕ) → l.begin ≤ i → i < l.start → get_or l.letters (i + l.period) 0 ≡ get_or l.letters i 0;
}

abbrev pub decreases-loop-begin : goal.decreases-loop-begin
decreases-loop-begin l = l.begin

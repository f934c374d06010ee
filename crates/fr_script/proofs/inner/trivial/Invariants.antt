use Rattle.std.proofs.Common.{◌≡◌, replicate, []}
use Rattle.fr_script.proofs.inner.trivial.Given as goal

abbrev pub invariant-loop : goal.invariant-loop
invariant-loop l = l.sections ≡ replicate l.counter []

use Rattle.std.proofs.Common.{◌≡◌, ◌*◌, ◌++◌}
use Rattle.fr_demo.specs.Demonstration as spec
use Rattle.fr_demo.proofs.script.demo_script.Given as goal

abbrev pub invariant-loop : goal.invariant-loop
invariant-loop l = (l.draws.state ≡ spec.state l.seed (4 * l.counter)) × (l.script.items ≡ spec.definitions ++ spec.questions l.seed l.counter)

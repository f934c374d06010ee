use Rattle.std.proofs.Common.{◌≡◌, drop}
use Rattle.fr_eval.specs.NamePlaces.{first_placeless}
use Rattle.fr_eval.proofs.names.first_unknown.Given as goal

abbrev pub invariant-loop-recursion : goal.invariant-loop-recursion
invariant-loop-recursion l = first_placeless l.places l.block ≡ first_placeless l.places (drop l.recursion-index l.block)

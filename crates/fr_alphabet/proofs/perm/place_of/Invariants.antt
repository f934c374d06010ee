use Rattle.std.proofs.Common.{◌≡◌, drop, suc}
use Rattle.fr_model.specs.Permutations.{place_from, preimage}
use Rattle.fr_alphabet.proofs.perm.place_of.Given as goal

abbrev pub invariant-loop-i : goal.invariant-loop-i
invariant-loop-i l = place_from (suc l.i) (drop l.i l.images) l.y ≡ preimage l.images l.y

use Rattle.std.proofs.Common.{take, eqb}
use Rattle.std.specs.List.{IsDistinct}
use Rattle.fr_model.specs.Words.{IsWord}
use Rattle.fr_alphabet.proofs.perm.is_permutation.Given as goal

abbrev pub invariant-loop-i : goal.invariant-loop-i
invariant-loop-i l = record {
  letters : IsWord l.d (take l.i l.images);
  distinct : IsDistinct eqb (take l.i l.images);
}

use Rattle.std.proofs.Common.{◌≡◌, ◌++◌, take}
use Rattle.fr_model.specs.Permutations.{identity_permutation}
use Rattle.fr_alphabet.proofs.CycleTexts.{begun_text}
use Rattle.fr_alphabet.proofs.perm.Perm.push_cycles.Given as goal

abbrev pub invariant-loop-i : goal.invariant-loop-i
invariant-loop-i l = l.out.items ≡ l.fn.out.items ++ begun_text l.self (take l.i (identity_permutation l.i-end))

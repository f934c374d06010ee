use Rattle.std.proofs.Common.{suc, ◌≡◌, ◌++◌, ◌∷◌, map, take}
use Rattle.fr_model.specs.Ranks.{rank}
use Rattle.fr_canon.proofs.canonical.push_state.Given as goal

abbrev pub invariant-loop-x : goal.invariant-loop-x
invariant-loop-x l = l.out ≡ l.fn.out ++ rank l.row.perm ∷ map suc (take l.x l.row.next)

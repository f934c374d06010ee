use Rattle.std.proofs.Common.{◌≡◌, ◌≤◌, ℕ, List, length, take, ◌++◌}
use Rattle.fr_store.specs.declared.handle.Handle.{Handle}
use Rattle.fr_plain.specs.Blocks.{names_of}
use Rattle.fr_expr.specs.Names.{Names}
use Rattle.fr_expr.specs.Tables.{names_in, bindings_of}
use Rattle.fr_expr.proofs.env.Env.unbind_first.Given as goal

abbrev pub invariant-loop-k : goal.invariant-loop-k
invariant-loop-k l = record {
  within : l.k ≤ l.count;
  left : (before : Names) (line : ℕ) (handles : List Handle) → length handles ≡ length l.block
      → ((q : List ℕ) → names_in l.fn.self q ≡ before q ++ bindings_of line (names_of (take l.count l.block)) handles q)
      → (q : List ℕ) → names_in l.self q ≡ before q ++ bindings_of line (names_of (take l.k l.block)) handles q;
}

abbrev pub decreases-loop-k : goal.decreases-loop-k
decreases-loop-k l = l.k

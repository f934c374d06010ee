use Rattle.std.proofs.Common.{◌≡◌, ℕ, List, take, ◌++◌}
use Rattle.fr_plain.specs.Blocks.{names_of}
use Rattle.fr_expr.specs.Tables.{names_in, bindings_of}
use Rattle.fr_expr.proofs.env.Env.bind_block.Given as goal

abbrev pub invariant-loop-k : goal.invariant-loop-k
invariant-loop-k l = (q : List ℕ) → names_in l.self q ≡ names_in l.fn.self q ++ bindings_of l.line (names_of (take l.k l.block)) l.handles q

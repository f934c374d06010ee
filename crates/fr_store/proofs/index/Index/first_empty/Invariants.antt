use Rattle.std.proofs.Common.{ℕ, ◌<◌, ◌≢◌, length, get_or}
use Rattle.fr_store.specs.Index.{cell_at}
use Rattle.fr_store.proofs.index.Index.first_empty.Given as goal

abbrev pub invariant-loop-steps : goal.invariant-loop-steps
invariant-loop-steps l = record {
  passed : (i : ℕ) → i < l.steps → get_or l.self.cells.items (cell_at (length l.self.cells.items) l.start i) 0 ≢ 0;
}

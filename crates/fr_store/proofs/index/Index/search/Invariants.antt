use Rattle.std.proofs.Common.{◌≡◌}
use Rattle.fr_store.specs.Coded.{codes_of}
use Rattle.fr_store.specs.Index.{IsPassed}
use Rattle.fr_store.proofs.index.Index.search.Given as goal

abbrev pub invariant-loop-steps : goal.invariant-loop-steps
invariant-loop-steps l = record {
  wanted : l.desk.wanted ≡ l.fn.desk.wanted;
  hints : l.desk.hints ≡ l.fn.desk.hints;
  passed : IsPassed (codes_of l.blocks) l.self.cells.items l.fn.desk.wanted l.steps;
}

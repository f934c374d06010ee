use Rattle.std.proofs.Common.{◌≡◌, length}
use Rattle.fr_store.specs.Coded.{codes_of}
use Rattle.fr_store.specs.Index.{AreHints}
use Rattle.fr_store.proofs.index.Index.hint_all.Given as goal

abbrev pub invariant-loop-x : goal.invariant-loop-x
invariant-loop-x l = record {
  hints : AreHints (codes_of l.blocks) l.self.handles.items l.start l.hints.items;
  room : length l.hints.items ≡ 1024;
}

use Rattle.std.proofs.Common.{◌≡◌, length, take}
use Rattle.fr_store.specs.Coded.{codes_of}
use Rattle.fr_store.specs.Index.{IsTable}
use Rattle.fr_store.proofs.index.Index.reenter_all.Given as goal

abbrev pub invariant-loop-k : goal.invariant-loop-k
invariant-loop-k l = record {
  table : IsTable (codes_of l.blocks) (take l.k l.fn.self.handles.items) l.self.cells.items;
  cells : length l.self.cells.items ≡ length l.fn.self.cells.items;
  most_bits : l.self.most_bits ≡ l.fn.self.most_bits;
  handles : l.self.handles ≡ l.fn.self.handles;
  links : l.self.links ≡ l.fn.self.links;
}

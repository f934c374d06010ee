use Rattle.std.proofs.Common.{◌≡◌, ◌≤◌, length, vec_capacity}
use Rattle.fr_store.specs.Coded.{codes_of}
use Rattle.fr_store.specs.Index.{IsLinked, AreHints}
use Rattle.fr_store.proofs.index.Index.link_all.Given as goal

abbrev pub invariant-loop : goal.invariant-loop
invariant-loop l = record {
  linked : IsLinked (codes_of l.blocks) (length l.blocks.rows.items) l.counter l.fn.self.handles.items l.fn.self.links.items l.self.handles.items l.self.links.items l.self.cells.items;
  hints : AreHints (codes_of l.blocks) l.self.handles.items l.start l.desk.hints.items;
  cells : length l.self.cells.items ≡ length l.fn.self.cells.items;
  most_bits : l.self.most_bits ≡ l.fn.self.most_bits;
  handle_room : vec_capacity l.fn.self.handles ≤ vec_capacity l.self.handles;
  link_room : vec_capacity l.fn.self.links ≤ vec_capacity l.self.links;
}

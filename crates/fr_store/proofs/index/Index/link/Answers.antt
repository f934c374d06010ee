use Rattle.std.proofs.Common.{ℕ, List, length}
use Rattle.fr_store.specs.Blocks.{code_at}
use Rattle.fr_store.proofs.IndexLaws.{handle-lt_rows}
use Rattle.fr_store.proofs.index.Index.link.Goals as goal

pub hint_all-requires-clause-handle : goal.hint_all-requires-clause-handle
hint_all-requires-clause-handle c =
    let b = c.args.blocks.now in
    let code : ℕ → List ℕ = code_at b.alphabet b.rows.items b.places.items in
    let given = c.give_known-handle.ensures.given in
    handle-lt_rows code (length b.rows.items) c.give_known-handle.new.self.handles.items given.distinct c.give_known-handle.result given.handle

use Rattle.std.proofs.Common.{ℕ, rules, ◌≡◌, length, sym, subst}
use Rattle.fr_store.specs.Store.{IsHandleCount}
use Rattle.fr_store.specs.VecView.{known_of}
use Rattle.fr_store.proofs.VecLaws.{handle_count, AreHandles-index}
use Rattle.fr_store.proofs.vec_store.VecStore.census.Goals as goal

pub returns-clause-count : goal.returns-clause-count
returns-clause-count c =
    let s = c.args.self.now in
    let b = s.blocks in
    let P : ℕ → Type 0 = λ n. IsHandleCount (known_of s) n in
    let len : c.len.result ≡ length s.index.handles.items = search rules in
    subst P (sym len) (handle_count b.alphabet b.rows.items b.places.items b.are_blocks s.index.handles.items s.index.links.items s.is_index s.whole)

pub returns-clause-handles : goal.returns-clause-handles
returns-clause-handles c =
    let s = c.args.self.now in
    let b = s.blocks in
    AreHandles-index b.alphabet b.rows.items b.places.items b.are_blocks s.index.handles.items s.index.links.items s.is_index s.whole

use Rattle.std.proofs.Common.{ℕ, List, Option}
use Rattle.fr_store.specs.Store.{AreHandles}
use Rattle.fr_store.specs.VecView.{known_of}
use Rattle.fr_store.specs.declared.vec_store.VecStore.{VecStore}
use Rattle.fr_store.proofs.VecLaws.{AreHandles-index}
use Rattle.fr_store.proofs.InverseLaws.{AreInverses-found, IsKnown-inverse, recalled_inverse}
use Rattle.fr_store.proofs.vec_store.VecStoreStore.recall_inverse.Goals as goal

handles_of : (s : VecStore) → AreHandles s.blocks.alphabet (known_of s)
handles_of s =
    let b = s.blocks in
    AreHandles-index b.alphabet b.rows.items b.places.items b.are_blocks s.index.handles.items s.index.links.items s.is_index s.whole

pub returns-clause-inverse : goal.returns-clause-inverse
returns-clause-inverse c = λ t x.
    let s = c.args.self.now in
    let b = s.blocks in
    let p = AreInverses-found b.alphabet (known_of s) s.inverses.entries.items c.args.a.node c.in_ok-node.node s.are_inverses c.in_ok-node.ensures in
    recalled_inverse b.alphabet (known_of s) (handles_of s) c.args.a (record { node = c.in_ok-node.node }) p t x

pub returns-clause-known : goal.returns-clause-known
returns-clause-known c =
    let s = c.args.self.now in
    let b = s.blocks in
    let p = AreInverses-found b.alphabet (known_of s) s.inverses.entries.items c.args.a.node c.in_ok-node.node s.are_inverses c.in_ok-node.ensures in
    IsKnown-inverse b.alphabet (known_of s) (handles_of s) c.args.a (record { node = c.in_ok-node.node }) p

pub returns-clause-handles : goal.returns-clause-handles
returns-clause-handles c = handles_of c.args.self.now

pub returns-in_err-node-clause-handles : goal.returns-in_err-node-clause-handles
returns-in_err-node-clause-handles c = handles_of c.args.self.now

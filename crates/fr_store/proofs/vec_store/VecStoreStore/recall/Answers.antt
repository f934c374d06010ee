use Rattle.fr_store.proofs.VecLaws.{AreHandles-index}
use Rattle.fr_store.proofs.ProductLaws.{AreProducts-found, IsKnown-recalled, recalled}
use Rattle.fr_store.specs.VecView.{known_of}
use Rattle.fr_store.proofs.vec_store.VecStoreStore.recall.Goals as goal

pub returns-clause-product : goal.returns-clause-product
returns-clause-product c = λ t u x y.
    let s = c.args.self.now in
    let b = s.blocks in
    let p = AreProducts-found b.alphabet (known_of s) s.products.entries.items c.args.a.node c.args.b.node c.in_ok-node.node s.are_products c.in_ok-node.ensures in
    recalled b.alphabet b.rows.items b.places.items b.are_blocks s.index.handles.items s.index.links.items s.is_index s.whole c.args.a c.args.b (record { node = c.in_ok-node.node }) p t u x y

pub returns-clause-handles : goal.returns-clause-handles
returns-clause-handles c =
    let s = c.args.self.now in
    let b = s.blocks in
    AreHandles-index b.alphabet b.rows.items b.places.items b.are_blocks s.index.handles.items s.index.links.items s.is_index s.whole

pub returns-clause-known : goal.returns-clause-known
returns-clause-known c =
    let s = c.args.self.now in
    let b = s.blocks in
    let p = AreProducts-found b.alphabet (known_of s) s.products.entries.items c.args.a.node c.args.b.node c.in_ok-node.node s.are_products c.in_ok-node.ensures in
    IsKnown-recalled b.alphabet b.rows.items b.places.items b.are_blocks s.index.handles.items s.index.links.items s.is_index s.whole c.args.a c.args.b (record { node = c.in_ok-node.node }) p

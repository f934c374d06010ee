use Rattle.fr_store.proofs.VecLaws.{AreHandles-index, handle_row, handle_holds, output-images, output-permutes}
use Rattle.fr_store.proofs.vec_store.VecStoreStore.output.Goals as goal

pub perm-requires : goal.perm-requires
perm-requires c =
    let s = c.args.self.now in
    let b = s.blocks in
    handle_row b.alphabet b.rows.items b.places.items b.are_blocks s.index.handles.items s.index.links.items s.is_index s.whole c.args.h c.requires

pub returns-clause-permutes : goal.returns-clause-permutes
returns-clause-permutes c =
    let s = c.args.self.now in
    let b = s.blocks in
    output-permutes b.alphabet b.rows.items b.places.items b.are_blocks s.index.handles.items s.index.links.items s.is_index s.whole c.args.h.node c.perm.result (handle_holds b.alphabet b.rows.items b.places.items b.are_blocks s.index.handles.items s.index.links.items s.is_index s.whole c.args.h c.requires) c.perm.ensures.value

pub returns-clause-images : goal.returns-clause-images
returns-clause-images c = λ t x p l.
    let s = c.args.self.now in
    let b = s.blocks in
    output-images b.alphabet b.rows.items b.places.items b.are_blocks s.index.handles.items s.index.links.items s.is_index s.whole c.args.h t x c.perm.result c.perm.ensures.value p l

pub returns-clause-handles : goal.returns-clause-handles
returns-clause-handles c =
    let s = c.args.self.now in
    let b = s.blocks in
    AreHandles-index b.alphabet b.rows.items b.places.items b.are_blocks s.index.handles.items s.index.links.items s.is_index s.whole

use Rattle.std.proofs.Common.{arith, List, sym, subst}
use Rattle.fr_model.specs.Terms.{Inverse}
use Rattle.fr_store.specs.declared.inverses.Entry.{Entry}
use Rattle.fr_store.specs.Inverses.{AreInverses}
use Rattle.fr_store.specs.VecView.{known_of}
use Rattle.fr_store.proofs.StoreLaws.{IsKnown-stands}
use Rattle.fr_store.proofs.VecLaws.{handle_row}
use Rattle.fr_store.proofs.InverseLaws.{AreInverses-put}
use Rattle.fr_store.proofs.vec_store.VecStoreStore.remember_inverse.Goals as goal

pub put-requires : goal.put-requires
put-requires c =
    let s = c.args.self.now in
    let b = s.blocks in
    let k = IsKnown-stands b.alphabet (known_of s) c.args.b (Inverse c.requires.element) c.requires.inverse_at in
    let l = handle_row b.alphabet b.rows.items b.places.items b.are_blocks s.index.handles.items s.index.links.items s.is_index s.whole c.args.b k in
    omega (arith, l, s.fits, s.limit)

pub invariant_of-self-clause-are_inverses : goal.invariant_of-self-clause-are_inverses
invariant_of-self-clause-are_inverses c =
    let s = c.args.self.now in
    let b = s.blocks in
    let put = c.put.ensures in
    let P : List Entry → Type 0 = λ entries. AreInverses b.alphabet (known_of s) entries in
    subst P (sym put.1) (AreInverses-put b.alphabet (known_of s) s.inverses.entries.items put.0 c.args.a.node c.args.b.node c.requires s.are_inverses)

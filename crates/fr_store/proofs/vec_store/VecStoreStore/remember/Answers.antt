use Rattle.std.proofs.Common.{arith, List, sym, subst}
use Rattle.fr_model.specs.Terms.{Product}
use Rattle.fr_store.specs.declared.products.Entry.{Entry}
use Rattle.fr_store.specs.Products.{AreProducts}
use Rattle.fr_store.specs.VecView.{known_of}
use Rattle.fr_store.proofs.StoreLaws.{IsKnown-stands}
use Rattle.fr_store.proofs.VecLaws.{handle_row}
use Rattle.fr_store.proofs.ProductLaws.{AreProducts-put}
use Rattle.fr_store.proofs.vec_store.VecStoreStore.remember.Goals as goal

pub put-requires : goal.put-requires
put-requires c =
    let s = c.args.self.now in
    let b = s.blocks in
    let k = IsKnown-stands b.alphabet (known_of s) c.args.c (Product c.requires.first c.requires.second) c.requires.product_at in
    let l = handle_row b.alphabet b.rows.items b.places.items b.are_blocks s.index.handles.items s.index.links.items s.is_index s.whole c.args.c k in
    omega (arith, l, s.fits, s.limit)

pub invariant_of-self-clause-are_products : goal.invariant_of-self-clause-are_products
invariant_of-self-clause-are_products c =
    let s = c.args.self.now in
    let b = s.blocks in
    let put = c.put.ensures in
    let P : List Entry → Type 0 = λ entries. AreProducts b.alphabet (known_of s) entries in
    subst P (sym put.1) (AreProducts-put b.alphabet (known_of s) s.products.entries.items put.0 c.args.a.node c.args.b.node c.args.c.node c.requires s.are_products)

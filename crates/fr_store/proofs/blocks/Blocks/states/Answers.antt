use Rattle.fr_model.proofs.AlikeLaws.{alike_refl}
use Rattle.fr_store.specs.Blocks.{element_at}
use Rattle.fr_store.proofs.SizeLaws.{AreSizes-put, size-kept}
use Rattle.fr_store.proofs.blocks.Blocks.states.Goals as goal

pub returns-then-known-gt0-clause-size : goal.returns-then-known-gt0-clause-size
returns-then-known-gt0-clause-size c =
    let s = c.args.self.now in
    size-kept s.alphabet s.rows.items s.places.items s.sizes.items c.args.row c.index-known.result.now s.are_blocks s.are_sizes c.requires c.index-known.ensures c.if-known-gt0.true

pub invariant_of-self-clause-are_sizes : goal.invariant_of-self-clause-are_sizes
invariant_of-self-clause-are_sizes c =
    let s = c.args.self.now in
    let e = element_at s.rows.items s.places.items c.args.row in
    AreSizes-put s.alphabet s.rows.items s.places.items s.sizes.items c.args.row c.count-size.result s.are_sizes c.requires c.count-size.ensures.most (c.count-size.ensures.size e (alike_refl e))

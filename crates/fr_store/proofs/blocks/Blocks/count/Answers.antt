use Rattle.std.proofs.Common.{◌≡◌, sym, subst}
use Rattle.fr_model.specs.Terms.{IsAlike}
use Rattle.fr_store.specs.Blocks.{place_at}
use Rattle.fr_store.proofs.BlockLaws.{element_is, read_place}
use Rattle.fr_store.proofs.blocks.Blocks.count.Goals as goal

pub returns-clause-size : goal.returns-clause-size
returns-clause-size c = λ t e.
    let s = c.args.self.now in
    let place : c.index-place.result.now ≡ place_at s.places.items c.args.row = read_place s.alphabet s.rows.items s.places.items c.args.row c.index-place.result.now s.are_blocks c.requires c.index-place.ensures in
    let same = element_is s.rows.items s.places.items c.args.row c.block-block.result.now c.index-place.result.now c.block-block.ensures.value place in
    c.count_states.ensures.size t (subst (λ u. IsAlike u t) (sym same) e)

use Rattle.std.proofs.Common.{◌≡◌, ◌-◌, ap}
use Rattle.fr_store.specs.declared.blocks.Place.{Place}
use Rattle.fr_store.specs.Blocks.{place_at}
use Rattle.fr_store.proofs.BlockLaws.{code_at-only, read_place}
use Rattle.fr_store.proofs.blocks.Blocks.code.Goals as goal

pub returns : goal.returns
returns c =
    let place : c.index-place.result.now ≡ place_at c.args.self.now.places.items c.args.row = read_place c.args.self.now.alphabet c.args.self.now.rows.items c.args.self.now.places.items c.args.row c.index-place.result.now c.args.self.now.are_blocks c.requires c.index-place.ensures in
    code_at-only c.args.self.now.alphabet c.args.self.now.rows.items c.args.self.now.places.items c.args.row c.block-block.result.now _ c.canon_rows.new.out c.block-block.ensures.placed c.block-block.ensures.value (ap (λ (p : Place). c.args.row - p.start) place) c.canon_rows.ensures.only

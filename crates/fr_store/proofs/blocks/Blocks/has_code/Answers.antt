use Rattle.std.proofs.Common.{◌≡◌, sym, subst}
use Rattle.fr_model.specs.Canonical.{IsCode}
use Rattle.fr_model.proofs.AlikeLaws.{alike_refl}
use Rattle.fr_model.proofs.CodeLaws.{code-same}
use Rattle.fr_store.specs.Blocks.{place_at, element_at}
use Rattle.fr_store.proofs.BlockLaws.{element_is, read_place, IsCode-code_at}
use Rattle.fr_store.proofs.blocks.Blocks.has_code.Goals as goal

pub returns : goal.returns
returns c =
    let s = c.args.self.now in
    let place : c.index-place.result.now ≡ place_at s.places.items c.args.row = read_place s.alphabet s.rows.items s.places.items c.args.row c.index-place.result.now s.are_blocks c.requires c.index-place.ensures in
    let t = element_at s.rows.items s.places.items c.args.row in
    let same = element_is s.rows.items s.places.items c.args.row c.block-block.result.now c.index-place.result.now c.block-block.ensures.value place in
    let own = IsCode-code_at s.alphabet s.rows.items s.places.items c.args.row c.block-block.ensures.placed in (
      λ h. code-same s.alphabet t t _ _ own (subst (λ u. IsCode s.alphabet u c.args.code.now) same (c.has_code.ensures.0 h)) (alike_refl t),
      λ e. c.has_code.ensures.1 (subst (λ u. IsCode s.alphabet u c.args.code.now) (sym same) (subst (IsCode s.alphabet t) e own)),
    )

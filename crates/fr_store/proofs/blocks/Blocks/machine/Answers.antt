use Rattle.std.proofs.Common.{◌≡◌, subst, IfOk}
use Rattle.fr_model.specs.Terms.{Term, IsAlike}
use Rattle.fr_model.specs.Canonical.{IsCanonical}
use Rattle.fr_machine.specs.Machine.{MachineView}
use Rattle.fr_machine.specs.Rows.{states_of}
use Rattle.fr_store.specs.Blocks.{place_at}
use Rattle.fr_store.proofs.BlockLaws.{element_is, read_place}
use Rattle.fr_store.proofs.blocks.Blocks.machine.Goals as goal

pub returns-clause-canonical : goal.returns-clause-canonical
returns-clause-canonical c =
    let s = c.args.self.now in
    let place : c.index-place.result.now ≡ place_at s.places.items c.args.row = read_place s.alphabet s.rows.items s.places.items c.args.row c.index-place.result.now s.are_blocks c.requires c.index-place.ensures in
    let same = element_is s.rows.items s.places.items c.args.row c.block-block.result.now c.index-place.result.now c.block-block.ensures.value place in
    subst (λ u. IfOk c.canonical_machine.result (λ (m : MachineView). (t : Term) → IsAlike u t → IsCanonical s.alphabet t (states_of m.rows))) same c.canonical_machine.ensures.alike

use Rattle.std.proofs.Common.{sym}
use Rattle.fr_eval.specs.NamePlaces.{ArePlaces}
use Rattle.fr_eval.proofs.NameLaws.{placeless_fault, no_fault}
use Rattle.fr_eval.proofs.names.checked_places.Goals as goal

pub returns-in-Some : goal.returns-in-Some
returns-in-Some c =
    let are : ArePlaces c.args.block.now c.in-Ok.places = rw c.in-Ok.is at c.in_ok-places.ensures in
    placeless_fault c.args.block.now c.in-Ok.places c.in-Some.line are.distinct are.known (sym c.in-Some.ensures)

pub returns : goal.returns
returns c =
    let are : ArePlaces c.args.block.now c.in-Ok.places = rw c.in-Ok.is at c.in_ok-places.ensures in
    (no_fault c.args.block.now c.in-Ok.places are.distinct are.known (sym c.in_default.ensures), are.known)

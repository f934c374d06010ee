use Rattle.fr_layout.proofs.Spots.{places}
use Rattle.fr_layout.proofs.laws.places_are_apart.Goals as goal

pub returns : goal.returns
returns c = places

use Rattle.fr_canon.proofs.StateCodeLaws.{IsCode-state_code}
use Rattle.fr_canon.proofs.laws.states_have_codes.Goals as goal

pub returns : goal.returns
returns c = IsCode-state_code

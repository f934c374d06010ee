use Rattle.fr_model.proofs.LimitStateLaws.{limits_are_states}
use Rattle.fr_model.proofs.limits_are_states.Goals as goal

pub returns : goal.returns
returns c = record { limits = limits_are_states }

use Rattle.fr_board.proofs.Jobs.{jobs_are_drawn}
use Rattle.fr_board.proofs.laws.jobs_are_drawn_once.Goals as goal

pub returns : goal.returns
returns c = jobs_are_drawn

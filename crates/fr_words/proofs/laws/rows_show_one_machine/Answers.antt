use Rattle.fr_words.proofs.Learned.{machines}
use Rattle.fr_words.proofs.laws.rows_show_one_machine.Goals as goal

pub returns : goal.returns
returns c = machines

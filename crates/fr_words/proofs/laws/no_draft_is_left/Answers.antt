use Rattle.fr_words.proofs.Learned.{drafts}
use Rattle.fr_words.proofs.laws.no_draft_is_left.Goals as goal

pub returns : goal.returns
returns c = drafts

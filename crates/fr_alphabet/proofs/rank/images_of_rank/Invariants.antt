use Rattle.fr_alphabet.proofs.RankedImages.{IsRanked}
use Rattle.fr_alphabet.proofs.rank.images_of_rank.Given as goal

abbrev pub invariant-loop-n : goal.invariant-loop-n
invariant-loop-n l = IsRanked l.d l.n l.r l.rest l.images

use Rattle.std.proofs.Common.{ap, Some}
use Rattle.fr_model.proofs.RankLaws.{rank_below}
use Rattle.fr_alphabet.proofs.RankedImages.{take-IsPadded}
use Rattle.fr_alphabet.proofs.perm.Perm.of_rank.Goals as goal

pub returns-in_err-images-clause-only : goal.returns-in_err-images-clause-only
returns-in_err-images-clause-only c = λ p s e.
    let some = c.in_err-images.ensures.accepts.1 (rw c.letters-count.ensures.value (rw (← e) (rank_below c.args.a p s))) in cc

pub returns-clause-only : goal.returns-clause-only
returns-clause-only c = λ p s e. ap Some (take-IsPadded c.args.a c.letters-count.result c.args.r c.in_ok-images.images p c.letters-count.ensures.value c.in_ok-images.ensures.padded c.in_ok-images.ensures.value s e)

use Rattle.fr_model.proofs.RankLaws.{IsRank-rank, rank_below, rank_injective, permutation_of_rank, before_from_rank, rank-lt_before}
use Rattle.fr_model.proofs.ranks_are_places.Goals as goal

pub returns : goal.returns
returns c = record {
  counts = IsRank-rank;
  below = rank_below;
  injective = rank_injective;
  onto = permutation_of_rank;
  ordered = λ d p q s r. (before_from_rank d p q s r, rank-lt_before d p q s r);
}

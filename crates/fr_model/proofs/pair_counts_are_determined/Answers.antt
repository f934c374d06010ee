use Rattle.std.proofs.Common.{arith}
use Rattle.fr_model.specs.Words.{IsWord}
use Rattle.fr_model.specs.Classes.{SamePair}
use Rattle.fr_model.proofs.CountLaws.{HasMoreThan-from_count}
use Rattle.fr_model.proofs.ClassLaws.{pair_count_once, HasMorePairs-lt, IsPairCount-alike, HasMorePairs-alike}
use Rattle.fr_model.proofs.pair_counts_are_determined.Goals as goal

pub returns : goal.returns
returns c = record {
  one_count = pair_count_once;
  above = HasMorePairs-lt;
  not_both = λ d t u limit n l a b. omega (arith, HasMorePairs-lt d t u limit n b a);
  reaches = λ d t u limit n l a. HasMoreThan-from_count (IsWord d) (SamePair t u) limit n l a;
  alike_counts = IsPairCount-alike;
  alike_more = HasMorePairs-alike;
}

use Rattle.std.proofs.Common.{arith}
use Rattle.fr_model.specs.Words.{IsWord}
use Rattle.fr_model.specs.Classes.{SameSection}
use Rattle.fr_model.proofs.CountLaws.{HasMoreThan-from_count}
use Rattle.fr_model.proofs.ClassLaws.{size_once, HasMoreStates-lt, IsSize-alike, HasMoreStates-alike, IsSize-reached}
use Rattle.fr_model.proofs.sizes_are_determined.Goals as goal

pub returns : goal.returns
returns c = record {
  one_size = size_once;
  above = HasMoreStates-lt;
  not_both = λ d t limit n l a b. omega (arith, HasMoreStates-lt d t limit n b a);
  reaches = λ d t limit n l a. HasMoreThan-from_count (IsWord d) (SameSection t) limit n l a;
  alike_sizes = IsSize-alike;
  alike_more = HasMoreStates-alike;
  minimal = IsSize-reached;
}

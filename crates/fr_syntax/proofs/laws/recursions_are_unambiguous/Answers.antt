use Rattle.fr_syntax.proofs.Runs.{one_tree}
use Rattle.fr_syntax.proofs.RecursionLaws.{exact_recursions}
use Rattle.fr_syntax.proofs.laws.recursions_are_unambiguous.Goals as goal

pub returns : goal.returns
returns c = λ a b h. one_tree exact_recursions a b h

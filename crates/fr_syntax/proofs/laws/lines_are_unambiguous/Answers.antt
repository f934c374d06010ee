use Rattle.fr_syntax.proofs.Runs.{one_tree}
use Rattle.fr_syntax.proofs.LineLaws.{exact_lines}
use Rattle.fr_syntax.proofs.laws.lines_are_unambiguous.Goals as goal

pub returns : goal.returns
returns c = λ a b h. one_tree exact_lines a b h

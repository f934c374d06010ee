use Rattle.std.proofs.Common.{refl, List}
use Rattle.fr_line.specs.declared.Branch.{Branch}
use Rattle.fr_line.specs.Lines.{first_line}
use Rattle.fr_line.proofs.Weaving.{woven_first}
use Rattle.fr_line.proofs.Trees.{tree_whole}
use Rattle.fr_line.proofs.first_seat_is_whole.Goals as goal

pub returns : goal.returns
returns c = let t = woven_first (λ (l : List Branch). l) first_line refl in record { tree = t; whole = tree_whole first_line t }

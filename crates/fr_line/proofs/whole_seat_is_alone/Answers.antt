use Rattle.std.proofs.Common.{List}
use Rattle.fr_line.specs.declared.Branch.{Branch}
use Rattle.fr_line.proofs.Weaving.{whole_alone}
use Rattle.fr_line.proofs.Standing.{whole_of_alone}
use Rattle.fr_line.proofs.whole_seat_is_alone.Goals as goal

pub returns : goal.returns
returns c = record { alone = λ lines. whole_alone (λ (x : List Branch). x) lines; whole = whole_of_alone }

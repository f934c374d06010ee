use Rattle.fr_line.proofs.Standing.{here_once, here_one_seat, here_root, here_child, count_parent}
use Rattle.fr_line.proofs.lines_make_a_tree.Goals as goal

pub returns : goal.returns
returns c = record { once = here_once; one_seat = here_one_seat; root = here_root; child = here_child; parent = count_parent }

use Rattle.std.proofs.Common.{List}
use Rattle.fr_line.specs.declared.Branch.{Branch}
use Rattle.fr_line.proofs.Trees.{tree_of_whole, tree_split, tree_join, tree_join_last, tree_whole}
use Rattle.fr_line.proofs.crews_keep_the_tree.Goals as goal

pub returns : goal.returns
returns c = record { begins = λ lines i l. tree_of_whole (λ (x : List Branch). x) lines i l; split = tree_split; first_back = tree_join; last_back = tree_join_last; all_back = tree_whole }

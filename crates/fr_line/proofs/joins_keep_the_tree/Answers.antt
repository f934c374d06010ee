use Rattle.std.proofs.Common.{refl, ◌∙◌, ◌++◌, [], List}
use Rattle.fr_line.specs.declared.Branch.{Branch}
use Rattle.fr_line.proofs.Totals.{get_elem?-set_other}
use Rattle.fr_line.proofs.Weaving.{woven_join, live_append}
use Rattle.fr_line.proofs.joins_keep_the_tree.Goals as goal

pub returns : goal.returns
returns c = record {
  tree = λ lines i j l m other at at' t. woven_join (λ (x : List Branch). x) lines i j l m (l ++ m) [] at (get_elem?-set_other lines i j (l ++ m) other ∙ at') refl refl t;
  live = live_append;
}

use Rattle.std.proofs.Common.{ap, List}
use Rattle.fr_line.specs.declared.Branch.{Branch}
use Rattle.fr_line.specs.Lines.{cut, sprout}
use Rattle.fr_line.proofs.Weaving.{woven_split, head_of, live_cut, live_sprout}
use Rattle.fr_line.proofs.Standing.{cut_not_whole}
use Rattle.fr_line.proofs.splits_keep_the_tree.Goals as goal

pub returns : goal.returns
returns c = record {
  tree = λ lines i l at live t. let h = head_of l live in woven_split (λ (x : List Branch). x) lines i l (cut l) (sprout l) h.0 h.1 at h.2 (ap cut h.2) (ap sprout h.2) t;
  old_live = live_cut;
  new_live = live_sprout;
  not_whole = cut_not_whole;
}

use Rattle.fr_script.proofs.LineCuts.{cut_inside, cut_last}
use Rattle.fr_script.proofs.script.cut_line.Goals as goal

pub returns-then-n-text-clause-lines : goal.returns-then-n-text-clause-lines
returns-then-n-text-clause-lines c = cut_inside c.args.text.now c.length_before-n.result c.requires c.length_before-n.ensures

pub returns-else-n-text-clause-lines : goal.returns-else-n-text-clause-lines
returns-else-n-text-clause-lines c = cut_last c.args.text.now c.length_before-n.result c.requires c.length_before-n.ensures c.if-n-text.false

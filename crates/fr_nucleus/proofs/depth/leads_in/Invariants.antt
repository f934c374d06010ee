use Rattle.fr_nucleus.specs.Depths.{LeadsOut}
use Rattle.fr_nucleus.proofs.depth.leads_in.Given as goal

abbrev pub invariant-loop-x : goal.invariant-loop-x
invariant-loop-x l = LeadsOut l.row l.marks l.x

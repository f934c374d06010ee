use Rattle.std.proofs.Common.{◌≡◌, take}
use Rattle.fr_model.specs.Automata.{state_after}
use Rattle.fr_machine.specs.Rows.{states_of}
use Rattle.fr_growth.specs.Layers.{IsLastBranch}
use Rattle.fr_growth.proofs.least.last_branch.Given as goal

abbrev pub invariant-loop-place : goal.invariant-loop-place
invariant-loop-place l = record {
  row : l.row ≡ state_after (states_of l.m.rows) l.from (take l.place l.first);
  best : IsLastBranch l.m.alphabet l.m.rows l.sets l.from l.first l.place l.branch;
}

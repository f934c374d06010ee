use Rattle.std.proofs.Common.{suc}
use Rattle.fr_model.specs.Automata.{state_at}
use Rattle.fr_machine.specs.Rows.{states_of}
use Rattle.fr_minimal.specs.Searches.{AgreeBelow}
use Rattle.fr_minimal.proofs.separation.difference.Given as goal

abbrev pub invariant-loop-x : goal.invariant-loop-x
invariant-loop-x l = AgreeBelow l.m.alphabet (state_at (states_of l.m.rows) l.left).perm (state_at (states_of l.n.rows) l.right).perm (suc l.x)

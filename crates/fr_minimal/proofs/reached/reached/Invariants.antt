use Rattle.std.proofs.Common.{◌≡◌, ◌-◌, length}
use Rattle.fr_machine.specs.Rows.{states_of}
use Rattle.fr_machine.specs.Walks.{IsBuilt}
use Rattle.fr_model.specs.Automata.{next_state}
use Rattle.fr_minimal.specs.Smallest.{chosen_output}
use Rattle.fr_minimal.proofs.reached.reached.Given as goal

abbrev pub invariant-loop-walk : goal.invariant-loop-walk
invariant-loop-walk l = record {
  built : IsBuilt l.m.alphabet (length l.m.rows) (next_state (states_of l.m.rows)) (chosen_output (states_of l.m.rows)) l.s l.walk.keys l.rows.items;
  bound : l.walk.bound ≡ length l.m.rows;
}

abbrev pub decreases-loop-walk : goal.decreases-loop-walk
decreases-loop-walk l = 65536 - length l.rows.items

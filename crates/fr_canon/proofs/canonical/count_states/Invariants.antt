use Rattle.std.proofs.Common.{List, length, ◌-◌}
use Rattle.fr_model.specs.Automata.{State, next_state}
use Rattle.fr_machine.specs.Rows.{states_of}
use Rattle.fr_canon.specs.Listings.{row_output, IsListed}
use Rattle.fr_canon.proofs.canonical.count_states.Given as goal

abbrev pub invariant-loop-done : goal.invariant-loop-done
invariant-loop-done l = (states : List State) × IsListed l.a (length l.rows) (next_state (states_of l.rows)) (row_output (states_of l.rows)) l.s l.walk.keys l.done states

abbrev pub decreases-loop-done : goal.decreases-loop-done
decreases-loop-done l = 1024 - l.done

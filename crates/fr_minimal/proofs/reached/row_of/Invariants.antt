use Rattle.fr_machine.specs.Rows.{states_of}
use Rattle.fr_machine.specs.Walks.{IsRowPart}
use Rattle.fr_model.specs.Automata.{next_state}
use Rattle.fr_minimal.proofs.reached.row_of.Given as goal

abbrev pub invariant-loop-x : goal.invariant-loop-x
invariant-loop-x l = IsRowPart l.m.alphabet 65536 (next_state (states_of l.m.rows)) l.fn.walk l.walk l.s l.next l.x

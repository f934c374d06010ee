use Rattle.std.proofs.Common.{length, ◌-◌}
use Rattle.fr_model.specs.Automata.{next_state}
use Rattle.fr_machine.specs.Rows.{states_of}
use Rattle.fr_canon.specs.Listings.{row_output}
use Rattle.fr_canon.proofs.RowListLaws.{AreRowsListed}
use Rattle.fr_canon.proofs.canonical.list_rows.Given as goal

abbrev pub invariant-loop-done : goal.invariant-loop-done
invariant-loop-done l = AreRowsListed l.a (length l.rows) (next_state (states_of l.rows)) (row_output (states_of l.rows)) l.s l.walk.keys l.done l.found.items

abbrev pub decreases-loop-done : goal.decreases-loop-done
decreases-loop-done l = 1024 - l.done

use Rattle.std.proofs.Common.{length}
use Rattle.fr_model.specs.Automata.{next_state}
use Rattle.fr_machine.specs.Rows.{states_of}
use Rattle.fr_canon.proofs.ListingLaws.{IsRowBegun}
use Rattle.fr_canon.proofs.canonical.list_row.Given as goal

abbrev pub invariant-loop-x : goal.invariant-loop-x
invariant-loop-x l = IsRowBegun l.fn.a (length l.rows) (next_state (states_of l.rows)) l.fn.walk l.walk l.key l.next l.x

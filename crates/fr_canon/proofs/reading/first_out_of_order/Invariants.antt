use Rattle.fr_machine.specs.Rows.{states_of}
use Rattle.fr_canon.proofs.OrderReadLaws.{IsOrderRead}
use Rattle.fr_canon.proofs.reading.first_out_of_order.Given as goal

abbrev pub invariant-loop-k : goal.invariant-loop-k
invariant-loop-k l = IsOrderRead (states_of l.rows) l.k l.met

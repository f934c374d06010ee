use Rattle.std.proofs.Common.{◌≡◌, length}
use Rattle.std.specs.List.{All}
use Rattle.fr_machine.specs.Rows.{IsRow, states_of}
use Rattle.fr_canon.specs.Readings.{BeginsWith}
use Rattle.fr_canon.proofs.reading.read_rows.Given as goal

abbrev pub invariant-loop-k : goal.invariant-loop-k
invariant-loop-k l = record {
  rows : All (λ r. IsRow l.a l.count r) l.rows.items;
  count : length l.rows.items ≡ l.k;
  begins : BeginsWith l.a l.count l.text (states_of l.rows.items) l.rest;
}

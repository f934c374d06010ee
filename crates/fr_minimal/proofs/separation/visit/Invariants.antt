use Rattle.std.proofs.Common.{ℕ, ◌≡◌, ◌+◌, length}
use Rattle.fr_machine.specs.Rows.{states_of}
use Rattle.fr_minimal.specs.Searches.{IsSearched, StayMet}
use Rattle.fr_minimal.proofs.separation.visit.Given as goal

abbrev pub invariant-loop-x : goal.invariant-loop-x
invariant-loop-x l = record {
  left_rows : l.search.left_rows ≡ l.fn.search.left_rows;
  rows : length l.search.groups.parents.items ≡ length l.fn.search.groups.parents.items;
  stay : StayMet l.fn.search.met.items l.search.met.items;
  searched : (s t : ℕ) → IsSearched l.m.alphabet (states_of l.m.rows) (states_of l.n.rows) s t l.fn.search.met.items l.place 1 → IsSearched l.m.alphabet (states_of l.m.rows) (states_of l.n.rows) s t l.search.met.items l.place (l.x + 1);
}

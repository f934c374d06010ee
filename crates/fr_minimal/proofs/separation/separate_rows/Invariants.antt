use Rattle.std.proofs.Common.{ℕ, ◌≡◌, ◌+◌, ◌-◌, ◌<◌, ◌≤◌, length}
use Rattle.fr_model.specs.Words.{IsLetter}
use Rattle.fr_model.specs.Permutations.{image}
use Rattle.fr_model.specs.Automata.{state_at}
use Rattle.fr_machine.specs.Rows.{states_of}
use Rattle.fr_minimal.specs.Searches.{met_at, IsSearched}
use Rattle.fr_minimal.proofs.separation.separate_rows.Given as goal

abbrev pub invariant-loop-place : goal.invariant-loop-place
invariant-loop-place l = record {
  left_rows : l.search.left_rows ≡ length l.m.rows;
  rows : length l.search.groups.parents.items ≡ length l.m.rows + length l.n.rows;
  inside : l.place ≤ length l.search.met.items;
  searched : IsSearched l.m.alphabet (states_of l.m.rows) (states_of l.n.rows) l.s l.t l.search.met.items l.place 1;
  agreed : (k : ℕ) → k < l.place → (y : ℕ) → IsLetter l.m.alphabet y → image (state_at (states_of l.m.rows) (met_at l.search.met.items k).left).perm y ≡ image (state_at (states_of l.n.rows) (met_at l.search.met.items k).right).perm y;
}

abbrev pub decreases-loop-place : goal.decreases-loop-place
decreases-loop-place l = length l.m.rows + length l.n.rows - l.place

-- The laws of sizes and of counts of pairs: each is one number, and terms that act alike have the same.
use Rattle.std.specs.Prelude.{ℕ, ◌≡◌, ◌<◌, ◌≤◌, List, length}
use Rattle.fr_model.specs.Terms.{Term, IsAlike}
use Rattle.fr_model.specs.Automata.{State, state_term, IsAutomaton, IsReached}
use Rattle.fr_model.specs.Classes.{IsSize, HasMoreStates, IsPairCount, HasMorePairs}

-- a term has one size; it is above each number that the term has more states than; terms that act alike have the same
pub record SizesAreDetermined : Type 0 where
  pub one_size : (d : ℕ) (t : Term) (m n : ℕ) → IsSize d t m → IsSize d t n → m ≡ n
  pub above : (d : ℕ) (t : Term) (limit n : ℕ) → HasMoreStates d t limit → IsSize d t n → limit < n
  pub not_both : (d : ℕ) (t : Term) (limit n : ℕ) → n ≤ limit → IsSize d t n → ¬ HasMoreStates d t limit
  pub reaches : (d : ℕ) (t : Term) (limit n : ℕ) → limit < n → IsSize d t n → HasMoreStates d t limit
  pub alike_sizes : (d : ℕ) (t u : Term) (n : ℕ) → IsAlike t u → IsSize d t n → IsSize d u n
  pub alike_more : (d : ℕ) (t u : Term) (limit : ℕ) → IsAlike t u → HasMoreStates d t limit → HasMoreStates d u limit
  -- a state from which each state is reached, where no two states act alike, has as many sections as there are states
  pub minimal : (d : ℕ) (qs : List State) (s : ℕ) → IsAutomaton d qs → s < length qs → ((r : ℕ) → r < length qs → IsReached d qs s r) → ((i j : ℕ) → i < j → j < length qs → ¬ IsAlike (state_term qs i) (state_term qs j)) → IsSize d (state_term qs s) (length qs)

-- the same of the pairs of sections of two terms
pub record PairCountsAreDetermined : Type 0 where
  pub one_count : (d : ℕ) (t u : Term) (m n : ℕ) → IsPairCount d t u m → IsPairCount d t u n → m ≡ n
  pub above : (d : ℕ) (t u : Term) (limit n : ℕ) → HasMorePairs d t u limit → IsPairCount d t u n → limit < n
  pub not_both : (d : ℕ) (t u : Term) (limit n : ℕ) → n ≤ limit → IsPairCount d t u n → ¬ HasMorePairs d t u limit
  pub reaches : (d : ℕ) (t u : Term) (limit n : ℕ) → limit < n → IsPairCount d t u n → HasMorePairs d t u limit
  pub alike_counts : (d : ℕ) (t t' u u' : Term) (n : ℕ) → IsAlike t t' → IsAlike u u' → IsPairCount d t u n → IsPairCount d t' u' n
  pub alike_more : (d : ℕ) (t t' u u' : Term) (limit : ℕ) → IsAlike t t' → IsAlike u u' → HasMorePairs d t u limit → HasMorePairs d t' u' limit

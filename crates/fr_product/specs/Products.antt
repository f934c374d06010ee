-- The product of two rows of machines, whose rows are the pairs of sections that words lead to (Grigorchuk, Nekrashevych and
-- Sushchanskii, Automata, dynamical systems, and groups).
use Rattle.std.specs.Prelude.{ℕ, ◌≡◌, ◌+◌, ◌*◌, ◌/◌, ◌%◌, ◌↔◌, List, length}
use Rattle.fr_model.specs.Words.{IsWord}
use Rattle.fr_model.specs.Permutations.{image, composite}
use Rattle.fr_model.specs.Terms.{Term, Product, IsAlike}
use Rattle.fr_model.specs.Automata.{State, state_at, next_state, state_after}
use Rattle.fr_model.specs.Classes.{SamePair, IsPairCount}
use Rattle.fr_machine.specs.declared.row.Row.{Row}
use Rattle.fr_machine.specs.Rows.{row_term, states_of}
use Rattle.fr_machine.specs.Minimal.{AreReached}

-- row 0 is the product of t and u, each row is reached, and two words lead to one row exactly where their pairs of
-- sections act alike
pub record IsProduct (d : ℕ) (t u : Term) (rows : List Row) : Type 0 where
  pub alike : IsAlike (row_term rows 0) (Product t u)
  pub reached : AreReached d rows
  pub pairs : (v w : List ℕ) → IsWord d v → IsWord d w → (state_after (states_of rows) 0 v ≡ state_after (states_of rows) 0 w) ↔ SamePair t u v w
  pub count : IsPairCount d t u (length rows)

-- a pair of rows is its place in a table of a row for each row of the first; a letter leads the first on, and its image the second
abbrev pub pair_step : List State → List State → ℕ → ℕ → ℕ → ℕ
pair_step ps qs width key x = next_state ps (key / width) x * width + next_state qs (key % width) (image (state_at ps (key / width)).perm x)

-- what a pair puts out: first the one, then the other
abbrev pub pair_output : List State → List State → ℕ → ℕ → List ℕ
pair_output ps qs width key = composite (state_at ps (key / width)).perm (state_at qs (key % width)).perm

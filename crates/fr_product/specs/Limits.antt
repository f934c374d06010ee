-- The rows of a machine that are reached from a cycle. Rows that no row is before are peeled off until none is left; this is
-- the algorithm of Kahn (Topological sorting of large networks), whose remainder is wanted here.
use Rattle.std.specs.Prelude.{ℕ, ◌≡◌, ◌≢◌, ◌<◌, ◌+◌, ◌↔◌, ◌==◌, Bool, true, false, IsTrue, if◌then◌else◌, List, [], ◌∷◌, length, sum_by, slice_index, slice_index_or}
use Rattle.fr_model.specs.Terms.{Term, IsAlike}
use Rattle.fr_model.specs.Automata.{State, IsLimitState}
use Rattle.fr_model.specs.Nuclei.{IsLimitSection}
use Rattle.fr_machine.specs.declared.row.Row.{Row}
use Rattle.fr_machine.specs.Rows.{state_of, states_of, row_term}

-- a mark for each row, which says whether the row is reached from one on a cycle
pub record AreLimitRows (d : ℕ) (rows : List Row) (marks : List Bool) : Type 0 where
  pub count : length marks ≡ length rows
  pub limits : (r : ℕ) → r < length rows → IsTrue (slice_index_or marks r false) ↔ IsLimitState d (states_of rows) r

-- the marked rows are the limit sections of row 0, up to acting alike
abbrev pub AreLimitSections : ℕ → List Row → List Bool → Type 0
AreLimitSections d rows marks = (h : Term) → IsLimitSection d (row_term rows 0) h ↔ ((r : ℕ) × (r < length rows) × IsTrue (slice_index_or marks r false) × IsAlike (row_term rows r) h)

-- how often a number stands in a list
abbrev pub times : ℕ → List ℕ → ℕ
times y [] = 0
times y (x ∷ xs) = (if x == y then 1 else 0) + times y xs

-- how often a row is a next row of one of these
abbrev pub arrivals_from : ℕ → List Row → ℕ
arrivals_from y rows = sum_by (λ r. times y (state_of r).next) rows

-- how often a state is a next state of one that is marked
abbrev pub arriving : List State → List Bool → ℕ → ℕ
arriving [] bs y = 0
arriving (q ∷ qs) [] y = 0
arriving (q ∷ qs) (b ∷ bs) y = (if b then times y q.next else 0) + arriving qs bs y

-- a number stands in the list
pub record IsIn (xs : List ℕ) (x : ℕ) : Type 0 where
  pub place : ℕ
  pub inside : place < length xs
  pub is : slice_index xs place ≡ x

-- no two members are equal
abbrev pub AreApart : List ℕ → Type 0
AreApart xs = (i j : ℕ) → i < j → j < length xs → slice_index xs i ≢ slice_index xs j

-- the rows to which none leads, each once
pub record AreUnreached (arrivals todo : List ℕ) : Type 0 where
  pub whole : (y : ℕ) → y < length arrivals → slice_index arrivals y ≡ 0 → IsIn todo y
  pub sound : (i : ℕ) → i < length todo → (slice_index todo i < length arrivals) × (slice_index arrivals (slice_index todo i) ≡ 0)
  pub apart : AreApart todo

-- some rows remain, and the others are no limit states. It is counted how often a row is a next row of one that remains,
-- where the members of one more list still count. Those that remain and to which none leads are to be peeled
pub record IsPeeling (d : ℕ) (qs : List State) (remains : List Bool) (arrivals todo more : List ℕ) : Type 0 where
  pub marks : length remains ≡ length qs
  pub size : length arrivals ≡ length qs
  pub counts : (y : ℕ) → y < length qs → slice_index arrivals y ≡ arriving qs remains y + times y more
  pub whole : (y : ℕ) → y < length qs → slice_index_or remains y false ≡ true → slice_index arrivals y ≡ 0 → IsIn todo y
  pub sound : (i : ℕ) → i < length todo → (slice_index todo i < length qs) × (slice_index_or remains (slice_index todo i) false ≡ true) × (slice_index arrivals (slice_index todo i) ≡ 0)
  pub apart : AreApart todo
  pub gone : (y : ℕ) → y < length qs → slice_index_or remains y false ≡ false → (slice_index arrivals y ≡ 0) × ¬ IsLimitState d qs y

-- What the rows of a block mean: an automaton, whose states are the rows (Nekrashevych, Self-Similar Groups, 1.3). How it is written in words is this project's own.
use Rattle.std.specs.Prelude.{◌≡◌, ℕ, zero, suc, ◌+◌, ◌-◌, ◌/◌, ◌%◌, ◌<◌, ◌≤◌, List, [], ◌∷◌, slice_index_or}
use Rattle.fr_model.specs.Words.{IsLetter}
use Rattle.fr_model.specs.Ranks.{rank, factorial}
use Rattle.fr_model.specs.Automata.{State, state_term}
use Rattle.fr_model.specs.Terms.{Term, IsAlike}
use Rattle.fr_alphabet.specs.Insertion.{in_front}
use Rattle.fr_machine.specs.declared.row.Row.{Row}
use Rattle.fr_machine.specs.Rows.{row_at}
use Rattle.fr_layout.specs.declared.plan.Plan.{Plan}
use Rattle.fr_layout.specs.declared.plan.Block.{Block}
use Rattle.fr_layout.specs.Places.{field_at, IsIn}

-- the images of d letters under the permutation with the rank r: the first digit of the rank says where the first letter goes
abbrev pub images_of : ℕ → ℕ → List ℕ
images_of zero r = []
images_of (suc d) r = in_front (suc (r / factorial d)) (images_of d (r % factorial d))

-- what stands in the field f of a row of a machine, where its block begins at the row start
abbrev pub field_value : ℕ → Row → ℕ → ℕ
field_value start row zero = suc (rank row.perm)
field_value start row (suc x) = suc (start + slice_index_or row.next x 0)

-- W is the content of each word
module _ (p : Plan) (W : ℕ → ℕ) where
  -- the next states of the row r at n letters from x on, where the block begins at the row start
  abbrev pub nexts_from : ℕ → ℕ → ℕ → ℕ → List ℕ
  nexts_from start r x zero = []
  nexts_from start r x (suc n) = (W (field_at p r x) - 1 - start) ∷ nexts_from start r (suc x) n

  -- the row r as a state
  abbrev pub state_in : ℕ → ℕ → State
  state_in start r = record { perm = images_of p.letters (W (field_at p r 0) - 1); next = nexts_from start r 1 p.letters }

  -- the words of the row r of the block b say this state
  abbrev pub IsSpelled : Block → ℕ → State → Type 0
  IsSpelled b r q = (W (field_at p r 0) ≡ suc (rank q.perm)) × ((x : ℕ) → IsLetter p.letters x → W (field_at p r x) ≡ suc (b.start + slice_index_or q.next (x - 1) 0))

  -- the words of the block say these rows of a machine
  abbrev pub AreSpelled : Block → List Row → Type 0
  AreSpelled b rows = (r f : ℕ) → IsIn r b → f ≤ p.letters → W (field_at p r f) ≡ field_value b.start (row_at rows (r - b.start)) f

  -- n rows from r on as states
  abbrev pub states_from : ℕ → ℕ → ℕ → List State
  states_from start r zero = []
  states_from start r (suc n) = state_in start r ∷ states_from start (suc r) n

  -- the block as an automaton
  unfoldable pub block_states : Block → List State
  block_states b = states_from b.start b.start b.size

  -- the row r of the block b as a term
  abbrev pub row_meaning : Block → ℕ → Term
  row_meaning b r = state_term (block_states b) (r - b.start)

  -- the row r of b and the row q of e act alike
  abbrev pub SameMeaning : Block → ℕ → Block → ℕ → Type 0
  SameMeaning b r e q = IsAlike (row_meaning b r) (row_meaning e q)

  -- each field of the block is written
  abbrev pub IsFull : Block → Type 0
  IsFull b = (r f : ℕ) → IsIn r b → f ≤ p.letters → 0 < W (field_at p r f)

  -- no two rows of the block act alike
  abbrev pub IsReduced : Block → Type 0
  IsReduced b = (r q : ℕ) → IsIn r b → IsIn q b → SameMeaning b r b q → r ≡ q

-- what may stand in the field f of a row of the block, over d letters: 1 and the rank of a permutation in field 0, and 1 and a row of the block in another
abbrev pub IsGood : ℕ → Block → ℕ → ℕ → Type 0
IsGood d b f x = (f ≡ 0 → x ≤ factorial d) × (0 < f → (b.start < x) × (x ≤ b.start + b.size))

-- The laws of the layout and of what rows mean, which the functions of this crate prove. This project's own.
use Rattle.std.specs.Prelude.{◌≡◌, ℕ, suc, ◌+◌, ◌-◌, ◌<◌, ◌≤◌, List, length}
use Rattle.fr_model.specs.Words.{IsLetter}
use Rattle.fr_model.specs.Ranks.{rank, factorial}
use Rattle.fr_model.specs.Permutations.{IsPermutation}
use Rattle.fr_model.specs.Automata.{State, state_at, next_state, IsAutomaton}
use Rattle.fr_model.specs.Terms.{IsTerm}
use Rattle.fr_machine.specs.declared.row.Row.{Row}
use Rattle.fr_machine.specs.Rows.{IsMachine, states_of, row_at, row_term}
use Rattle.fr_machine.specs.Minimal.{AreUnlike}
use Rattle.fr_layout.specs.declared.plan.Plan.{Plan}
use Rattle.fr_layout.specs.declared.plan.Block.{Block}
use Rattle.fr_layout.specs.Places.{field_at, link_at, cell_at, cache_at, word_count, IsIn}
use Rattle.fr_layout.specs.Packs.{pack_of, product_word}
use Rattle.fr_layout.specs.Meaning.{images_of, field_value, block_states, row_meaning, IsGood, IsReduced, IsSpelled, AreSpelled}
use Rattle.fr_layout.specs.Entries.{IsWritten, IsPlaced, IsLinked, IsCached, Grows}

-- fields come before links, links before cells, and cells before the cache, and no two of a kind are one word
pub record PlacesAreApart : Type 0 where
  pub fields : (p : Plan) (r q f g : ℕ) → f ≤ p.letters → g ≤ p.letters → field_at p r f ≡ field_at p q g → (r ≡ q) × (f ≡ g)
  pub fields_first : (p : Plan) (r f : ℕ) → r < p.capacity → f ≤ p.letters → (0 < field_at p r f) × (field_at p r f < link_at p 0)
  pub links : (p : Plan) (r q : ℕ) → link_at p r ≡ link_at p q → r ≡ q
  pub links_then : (p : Plan) (r : ℕ) → r < p.capacity → link_at p r < cell_at p 0
  pub cells : (p : Plan) (c e : ℕ) → cell_at p c ≡ cell_at p e → c ≡ e
  pub cells_then : (p : Plan) (c : ℕ) → c < p.cells → cell_at p c < word_count p
  pub cache : (p : Plan) (j k : ℕ) → cache_at p j ≡ cache_at p k → j ≡ k

-- a pack names one row of one block, and a cache word three rows
pub record PacksNameOneRow : Type 0 where
  pub packs : (b d : Block) (r q : ℕ) → IsIn r b → IsIn q d → b.size ≤ 1024 → d.size ≤ 1024 → pack_of b r ≡ pack_of d q → (b ≡ d) × (r ≡ q)
  pub products : (a b c x y z : ℕ) → a < 1048576 → b < 1048576 → x < 1048576 → y < 1048576 → product_word a b c ≡ product_word x y z → (a ≡ x) × (b ≡ y) × (c ≡ z)

-- the rows of a written block are the states of an automaton
pub record BlocksAreAutomata : Type 0 where
  -- each rank below the factorial is that of the permutation that is read from it
  pub permutes : (d r : ℕ) → r < factorial d → IsPermutation d (images_of d r) × (rank (images_of d r) ≡ r)
  pub count : (p : Plan) (W : ℕ → ℕ) (b : Block) → length (block_states p W b) ≡ b.size
  pub automaton : (p : Plan) (W : ℕ → ℕ) (b : Block) → IsWritten p W b → IsAutomaton p.letters (block_states p W b)
  pub term : (p : Plan) (W : ℕ → ℕ) (b : Block) (r : ℕ) → IsWritten p W b → IsIn r b → IsTerm p.letters (row_meaning p W b r)
  -- what the words of a row say
  pub output : (p : Plan) (W : ℕ → ℕ) (b : Block) (r : ℕ) → IsWritten p W b → IsIn r b → W (field_at p r 0) ≡ suc (rank (state_at (block_states p W b) (r - b.start)).perm)
  pub next : (p : Plan) (W : ℕ → ℕ) (b : Block) (r x : ℕ) → IsWritten p W b → IsIn r b → IsLetter p.letters x → W (field_at p r x) ≡ suc (b.start + next_state (block_states p W b) (r - b.start) x)
  -- an automaton whose states the words spell is that of the block
  pub spelled : (p : Plan) (W : ℕ → ℕ) (b : Block) (qs : List State) → IsAutomaton p.letters qs → length qs ≡ b.size → ((r : ℕ) → IsIn r b → IsSpelled p W b r (state_at qs (r - b.start))) → block_states p W b ≡ qs
  -- the words of the block alone decide
  pub decided : (p : Plan) (V W : ℕ → ℕ) (b : Block) → ((r f : ℕ) → IsIn r b → f ≤ p.letters → V (field_at p r f) ≡ W (field_at p r f)) → block_states p V b ≡ block_states p W b

-- a block whose words say the rows of a machine means that machine
pub record BlocksAreMachines : Type 0 where
  pub automaton : (p : Plan) (W : ℕ → ℕ) (b : Block) (rows : List Row) → IsMachine p.letters rows → length rows ≡ b.size → AreSpelled p W b rows → block_states p W b ≡ states_of rows
  pub meaning : (p : Plan) (W : ℕ → ℕ) (b : Block) (rows : List Row) (r : ℕ) → IsMachine p.letters rows → length rows ≡ b.size → AreSpelled p W b rows → row_meaning p W b r ≡ row_term rows (r - b.start)
  -- its rows are pairwise unlike exactly where the machine's are
  pub reduced : (p : Plan) (W : ℕ → ℕ) (b : Block) (rows : List Row) → IsMachine p.letters rows → length rows ≡ b.size → AreSpelled p W b rows → (AreUnlike rows → IsReduced p W b) × (IsReduced p W b → AreUnlike rows)
  -- and what stands in its fields may stand there
  pub good : (d : ℕ) (b : Block) (rows : List Row) (r f : ℕ) → IsMachine d rows → length rows ≡ b.size → IsIn r b → f ≤ d → (0 < field_value b.start (row_at rows (r - b.start)) f) × IsGood d b f (field_value b.start (row_at rows (r - b.start)) f)

-- the words of the table change, each from 0 alone, but for the number of claimed rows, which only grows
pub record WrittenBlocksStay : Type 0 where
  pub written : (p : Plan) (V W : ℕ → ℕ) (b : Block) → Grows V W → IsWritten p V b → IsWritten p W b
  pub meaning : (p : Plan) (V W : ℕ → ℕ) (b : Block) → Grows V W → IsWritten p V b → block_states p W b ≡ block_states p V b
  pub placed : (p : Plan) (V W : ℕ → ℕ) (i : ℕ) (b : Block) (r : ℕ) → Grows V W → 0 < i → IsPlaced p V i b r → IsPlaced p W i b r
  pub linked : (p : Plan) (V W : ℕ → ℕ) (r : ℕ) → Grows V W → IsLinked p V r → IsLinked p W r
  pub cached : (p : Plan) (V W : ℕ → ℕ) (x : ℕ) → Grows V W → ((r : ℕ) → r < p.capacity → 0 < V (link_at p r) → IsLinked p V r) → IsCached p V x → IsCached p W x

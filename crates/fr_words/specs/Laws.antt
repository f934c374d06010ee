-- The laws of the shared table, which the functions of this crate prove. This project's own.
use Rattle.std.specs.Prelude.{◌≡◌, ◌≢◌, ◌⊎◌, ℕ, ◌<◌, ◌≤◌, List, nat_lt}
use Rattle.fr_line.specs.Lines.{only_if, Whole}
use Rattle.fr_model.specs.Automata.{IsAutomaton}
use Rattle.fr_layout.specs.declared.plan.Plan.{Plan}
use Rattle.fr_layout.specs.declared.plan.Block.{Block}
use Rattle.fr_layout.specs.Places.{link_at, cell_at, IsIn}
use Rattle.fr_layout.specs.Packs.{pack_of}
use Rattle.fr_layout.specs.Meaning.{block_states, SameMeaning, IsFull, IsReduced}
use Rattle.fr_layout.specs.Entries.{IsWritten, NamesItself}
use Rattle.fr_words.specs.Members.{Has, Owns, rows_of, times}
use Rattle.fr_words.specs.Notes.{ticked, saw, claimed, wrote, learned, met, met_cell, entered, met_product, parted, sprouted, united}
use Rattle.fr_words.specs.Rule.{Kept, IsOwned, IsHandOf}
use Rattle.fr_words.specs.Lawful.{Lawful}
use Rattle.fr_words.specs.Asks.{Agrees, Admits, IsNoted, IsFinished, IsComplete, SawItself}
use Rattle.fr_words.specs.declared.notes.Fact.{Fact}
use Rattle.fr_words.specs.declared.notes.Note.{Note}

-- what a whole hand claimed is all that was claimed, and what it filled are all the full cells, each once
pub record WholeHandsOwnAll : Type 0 where
  pub rows : (v : Note) (n : ℕ) → Lawful v 0 n → Whole v.line → rows_of v.own ≡ n
  pub seen : (v : Note) (i n : ℕ) → Lawful v i n → Whole v.line → v.seen ≤ rows_of v.own
  pub cells : (v : Note) (c n : ℕ) → Lawful v (cell_at v.plan c) n → c < v.plan.cells → Whole v.line → times (cell_at v.plan c) v.made ≡ only_if (nat_lt 0 n) 1

-- some cell is empty, so no hand can have seen that all are full
pub record SomeCellIsEmpty : Type 0 where
  pub table : (p : Plan) (W : ℕ → ℕ) (views : List Note) → Kept p W views → (c : ℕ) × (c < p.cells) × (W (cell_at p c) ≡ 0)
  pub hand : (v : Note) (i n : ℕ) → Lawful v i n → ¬ ((c : ℕ) → c < v.plan.cells → (x : ℕ) × Has v.facts (cell_at v.plan c) x)

-- rows whose links name themselves are one where they act alike, whichever hands saw that
pub record HandlesAreUnique : Type 0 where
  pub table : (p : Plan) (W : ℕ → ℕ) (views : List Note) (a e : ℕ) (b d : Block) → Kept p W views → NamesItself p W a b → NamesItself p W e d → SameMeaning p W b a d e → a ≡ e
  pub hand : (v : Note) (i n a e : ℕ) (b d : Block) → Lawful v i n → SawItself v.plan v a b → SawItself v.plan v e d → ((Y : ℕ → ℕ) → Admits v.plan v.facts Y → SameMeaning v.plan Y b a d e) → a ≡ e
  -- a row lies in one block
  pub block : (p : Plan) (W : ℕ → ℕ) (views : List Note) (b d : Block) (r : ℕ) → Kept p W views → IsOwned views b → IsOwned views d → IsIn r b → IsIn r d → b ≡ d

-- the cell c has the row r of b
abbrev pub HasRow : Plan → (ℕ → ℕ) → ℕ → Block → ℕ → Type 0
HasRow p W c b r = (c < p.cells) × IsIn r b × (b.size ≤ 1024) × (W (cell_at p c) ≡ pack_of b r)

-- the hand saw that the cell c has the row r of b
abbrev pub SawRow : Plan → Note → ℕ → Block → ℕ → Type 0
SawRow p v c b r = (c < p.cells) × IsIn r b × (b.size ≤ 1024) × Has v.facts (cell_at p c) (pack_of b r)

-- no two cells have rows that act alike, and the link of a row that stands in a cell is 0 or names that row
pub record CellsAreUnique : Type 0 where
  pub cell : (p : Plan) (W : ℕ → ℕ) (views : List Note) (c e r q : ℕ) (b d : Block) → Kept p W views → HasRow p W c b r → HasRow p W e d q → SameMeaning p W b r d q → c ≡ e
  pub link : (p : Plan) (W : ℕ → ℕ) (views : List Note) (c r : ℕ) (b : Block) → Kept p W views → HasRow p W c b r → (W (link_at p r) ≡ 0) ⊎ (W (link_at p r) ≡ pack_of b r)
  -- the same of the cells that a hand saw, and of the link n that it finds
  pub seen_cell : (v : Note) (i n c e r q : ℕ) (b d : Block) → Lawful v i n → SawRow v.plan v c b r → SawRow v.plan v e d q → ((Y : ℕ → ℕ) → Admits v.plan v.facts Y → SameMeaning v.plan Y b r d q) → c ≡ e
  pub seen_link : (v : Note) (n c r : ℕ) (b : Block) → Lawful v (link_at v.plan r) n → SawRow v.plan v c b r → (n ≡ 0) ⊎ (n ≡ pack_of b r)

-- the fact stands in the notes after each kind of step of a hand with the note v, and after a join with a hand with the note u
pub record KeepsFact (v u : Note) (i x : ℕ) : Type 0 where
  pub looks : (n : ℕ) → Has (saw v n).facts i x
  pub claims : (start next : ℕ) → Has (claimed v start next).facts i x
  pub writes : (j y : ℕ) → Has (wrote v j y).facts i x
  pub learns : (j y : ℕ) → Has (learned v j y).facts i x
  pub meets : (j y : ℕ) → Has (met v j y).facts i x
  pub meets_cell : (j y : ℕ) → Has (met_cell v j y).facts i x
  pub enters : (j y : ℕ) → Has (entered v j y).facts i x
  pub meets_product : (j y : ℕ) → Has (met_product v j y).facts i x
  pub swaps : (j y z : ℕ) → Has (ticked v j y z).facts i x
  pub splits : Has (parted v).facts i x × Has (sprouted v).facts i x
  pub joins : Has (united v u).facts i x × Has (united u v).facts i x

-- what a hand noted of a block says all of it, and no step takes a fact back
pub record RowsShowOneMachine : Type 0 where
  pub noted : (v : Note) (b : Block) → IsNoted v.plan v.facts b → (Y Z : ℕ → ℕ) → Agrees v.facts Y → Agrees v.facts Z → block_states v.plan Y b ≡ block_states v.plan Z b
  -- a complete block is an automaton whose states are pairwise unlike
  pub complete : (v : Note) (i n : ℕ) (b : Block) → Lawful v i n → IsComplete v.plan v b → IsNoted v.plan v.facts b → (Y : ℕ → ℕ) → Agrees v.facts Y → IsAutomaton v.plan.letters (block_states v.plan Y b) × IsReduced v.plan Y b
  -- a link leads to a row that acts alike, as a hand knows once it has read both blocks
  pub link : (v : Note) (i n : ℕ) (b d : Block) (r q : ℕ) → Lawful v i n → IsComplete v.plan v b → IsIn r b → IsNoted v.plan v.facts b → IsNoted v.plan v.facts d → IsIn q d → d.size ≤ 1024 → r < v.plan.capacity → Has v.facts (link_at v.plan r) (pack_of d q) → (Y : ℕ → ℕ) → Agrees v.facts Y → SameMeaning v.plan Y b r d q
  pub kept : (v u : Note) (i x : ℕ) → Has v.facts i x → KeepsFact v u i x
  -- so what is known from facts is known for good
  pub known : (p : Plan) (few more : List Fact) (Y : ℕ → ℕ) → ((i x : ℕ) → Has few i x → Has more i x) → Admits p more Y → Admits p few Y

-- the link of the row r of b is 0, and no cell or link names the row
pub record IsUnseen (p : Plan) (W : ℕ → ℕ) (b : Block) (r : ℕ) : Type 0 where
  pub link : W (link_at p r) ≡ 0
  pub cells : (c : ℕ) → c < p.cells → W (cell_at p c) ≢ pack_of b r
  pub links : (q : ℕ) → q < p.capacity → W (link_at p q) ≢ pack_of b r

-- an unfinished block is seen by nobody else, and a hand without one leaves none behind
pub record NoDraftIsLeft : Type 0 where
  -- each block of such a hand is written
  pub finished : (p : Plan) (W : ℕ → ℕ) (views : List Note) (k : ℕ) (v : Note) (b : Block) → IsHandOf p W views k v → IsFinished p v → Owns v.own b → IsWritten p W b
  pub full : (p : Plan) (W : ℕ → ℕ) (views : List Note) (k : ℕ) (v : Note) (b : Block) → IsHandOf p W views k v → Owns v.own b → IsFull p W b → IsWritten p W b
  -- the block of a pack that stands in a cell or in a link is written, and some hand claimed it
  pub in_cell : (p : Plan) (W : ℕ → ℕ) (views : List Note) (c : ℕ) (b : Block) (r : ℕ) → Kept p W views → c < p.cells → IsIn r b → b.size ≤ 1024 → W (cell_at p c) ≡ pack_of b r → IsWritten p W b × IsOwned views b
  pub in_link : (p : Plan) (W : ℕ → ℕ) (views : List Note) (q : ℕ) (b : Block) (r : ℕ) → Kept p W views → q < p.capacity → IsIn r b → b.size ≤ 1024 → W (link_at p q) ≡ pack_of b r → IsWritten p W b × IsOwned views b
  -- of an unfinished block the links are 0, and no cell or link names a row
  pub draft : (p : Plan) (W : ℕ → ℕ) (views : List Note) (k : ℕ) (v : Note) (b : Block) (r : ℕ) → IsHandOf p W views k v → Owns v.own b → ¬ IsFull p W b → IsIn r b → IsUnseen p W b r
  pub split : (p : Plan) (v : Note) → IsFinished p v → IsFinished p (parted v) × IsFinished p (sprouted v)
  pub join : (p : Plan) (v u : Note) → IsFinished p v → IsFinished p u → IsFinished p (united v u)

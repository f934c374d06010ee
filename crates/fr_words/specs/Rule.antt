-- The rule of the shared table: what its words say, and what is right of the notes of its hands, between any two steps. This project's own.
use Rattle.std.specs.Prelude.{◌≡◌, ◌⊎◌, ℕ, ◌+◌, ◌<◌, ◌≤◌, List, [], length, nat_lt, slice_index}
use mathlib.Core.Option.{some}
use lib.ListN.{get_elem?}
use Rattle.atomic_table.specs.Table.{State}
use Rattle.fr_line.specs.Lines.{only_if, below, total, Woven, IsLive}
use Rattle.fr_layout.specs.declared.plan.Plan.{Plan}
use Rattle.fr_layout.specs.declared.plan.Block.{Block}
use Rattle.fr_layout.specs.Places.{IsPlan, field_at, link_at, cell_at, cache_at, cache_size, word_count, IsIn}
use Rattle.fr_layout.specs.Meaning.{IsFull, IsGood, IsReduced, SameMeaning}
use Rattle.fr_layout.specs.Entries.{IsPlaced, IsLinked, IsCached}
use Rattle.fr_words.specs.Members.{Has, Owns, covers, times}
use Rattle.fr_words.specs.Notes.{spent}
use Rattle.fr_words.specs.declared.notes.Note.{Note}

-- A block that a hand claimed. Its fields are 0 where the hand has not filled them. One with such a field is a draft, and any other has pairwise unlike rows
pub record IsOwn (p : Plan) (W : ℕ → ℕ) (v : Note) (b : Block) : Type 0 where
  pub claimed : b.start + b.size ≤ W 0
  pub sized : b.size ≤ 1024
  pub noted : (r f : ℕ) → IsIn r b → f ≤ p.letters → (W (field_at p r f) ≡ 0) ⊎ Has v.facts (field_at p r f) (W (field_at p r f))
  pub good : (r f : ℕ) → IsIn r b → f ≤ p.letters → 0 < W (field_at p r f) → IsGood p.letters b f (W (field_at p r f))
  pub reduced : IsFull p W b → IsReduced p W b

-- what is right of the note of each hand
pub record Knows (p : Plan) (W : ℕ → ℕ) (v : Note) : Type 0 where
  pub planned : IsLive v.line → v.plan ≡ p
  pub seen : v.seen ≤ W 0
  -- a noted word is a field, a link or a cell, is not 0, and still has its value
  pub facts : (i x : ℕ) → Has v.facts i x → (0 < i) × (i < word_count p) × (0 < x) × (W i ≡ x)
  pub own : (b : Block) → Owns v.own b → IsOwn p W v b
  -- at most one block is a draft
  pub one_draft : (b d : Block) → Owns v.own b → Owns v.own d → ¬ IsFull p W b → ¬ IsFull p W d → b ≡ d
  -- what the hand filled are cells, and stand in its facts
  pub made : (i : ℕ) → 0 < times i v.made → Has v.facts i (W i)
  pub made_cells : (i : ℕ) → 0 < times i v.made → (c : ℕ) × (c < p.cells) × (i ≡ cell_at p c)
  -- a hand that was joined into another leaves the empty note
  pub joined : v.line ≡ [] → v ≡ spent

-- some hand claimed the block
abbrev pub IsOwned : List Note → Block → Type 0
IsOwned views b = (j : ℕ) × (u : Note) × (get_elem? views j ≡ some u) × Owns u.own b

-- the rule, the cache left out: W is the content of each word, and the views are the notes of all hands
pub record Kept (p : Plan) (W : ℕ → ℕ) (views : List Note) : Type 0 where
  pub planned : IsPlan p
  pub most : W 0 ≤ p.capacity
  -- the rows that are not claimed are empty
  pub fresh : (r f : ℕ) → W 0 ≤ r → r < p.capacity → f ≤ p.letters → W (field_at p r f) ≡ 0
  pub fresh_link : (r : ℕ) → W 0 ≤ r → r < p.capacity → W (link_at p r) ≡ 0
  -- each claimed row is in one block of one hand, and no other row is
  pub cover : (r : ℕ) → total (λ v. covers r v.own) views ≡ below r (W 0)
  pub each : (k : ℕ) (v : Note) → get_elem? views k ≡ some v → Knows p W v
  pub woven : Woven (λ v. v.line) views
  -- a cell that is not empty has a row of a written block, on its walk
  pub cells : (c : ℕ) → c < p.cells → 0 < W (cell_at p c) → (b : Block) × (r : ℕ) × IsPlaced p W (cell_at p c) b r
  -- and no other cell has a row alike
  pub unlike : (c e : ℕ) (b d : Block) (r q : ℕ) → c < p.cells → e < p.cells → IsPlaced p W (cell_at p c) b r → IsPlaced p W (cell_at p e) d q → SameMeaning p W b r d q → c ≡ e
  -- a link that is not 0 is of a row of a claimed block, and leads to a cell with a row alike
  pub links : (r : ℕ) → r < p.capacity → 0 < W (link_at p r) → (l : IsLinked p W r) × IsOwned views l.own
  -- the block of a row that stands in a cell was claimed by a hand
  pub owned : (c : ℕ) → c < p.cells → (b : Block) (r : ℕ) → IsPlaced p W (cell_at p c) b r → IsOwned views b
  -- each full cell was filled by one hand, once
  pub filled : (c : ℕ) → c < p.cells → total (λ v. times (cell_at p c) v.made) views ≡ only_if (nat_lt 0 (W (cell_at p c))) 1

-- The hand k of a table under the rule has the note v: W is the content of the words below the cache, and the views are the notes of all hands
abbrev pub IsHandOf : Plan → (ℕ → ℕ) → List Note → ℕ → Note → Type 0
IsHandOf p W views k v = Kept p W views × (get_elem? views k ≡ some v)

-- the words below the cache
abbrev pub plain : Plan → List ℕ → ℕ → ℕ
plain p words i = only_if (nat_lt i (word_count p)) (slice_index words i)

-- the rule
pub record RuledBy (p : Plan) (s : State ℕ Note) : Type 0 where
  pub wide : length s.words ≡ word_count p + cache_size
  pub kept : Kept p (plain p s.words) s.views
  -- a cache word that is not 0 names a product
  pub cached : (j : ℕ) → j < cache_size → IsCached p (plain p s.words) (slice_index s.words (cache_at p j))
  -- and so does each that a hand met
  pub noted : (k : ℕ) (v : Note) → get_elem? s.views k ≡ some v → (x : ℕ) → 0 < times x v.products → (0 < x) × IsCached p (plain p s.words) x

-- What a hand has to know before a step that changes a word. This project's own.
use Rattle.std.specs.Prelude.{◌≡◌, ◌⊎◌, ℕ, ◌+◌, ◌%◌, ◌<◌, ◌≤◌, List, ◌++◌, [], ◌∷◌}
use Rattle.fr_model.specs.Terms.{Product, IsAlike}
use Rattle.fr_model.specs.Classes.{HasFewPairs}
use Rattle.fr_model.specs.Canonical.{IsCode}
use Rattle.fr_canon.specs.Codes.{home_of}
use Rattle.fr_layout.specs.declared.plan.Plan.{Plan}
use Rattle.fr_layout.specs.declared.plan.Block.{Block}
use Rattle.fr_layout.specs.Places.{field_at, link_at, cell_at, IsIn}
use Rattle.fr_layout.specs.Packs.{pack_of, product_word}
use Rattle.fr_layout.specs.Meaning.{row_meaning, SameMeaning, IsReduced, IsGood}
use Rattle.fr_words.specs.Members.{Has, Owns}
use Rattle.fr_words.specs.Notes.{fact}
use Rattle.fr_words.specs.Rule.{IsHandOf}
use Rattle.fr_words.specs.declared.notes.Fact.{Fact}
use Rattle.fr_words.specs.declared.notes.Note.{Note}

-- the facts hold of the words Y
abbrev pub Agrees : List Fact → (ℕ → ℕ) → Type 0
Agrees facts Y = (i x : ℕ) → Has facts i x → Y i ≡ x

-- The facts admit the words Y: they are those of a table under the rule in which a hand noted all these facts. What a hand knows is what is right of all such Y
abbrev pub Admits : Plan → List Fact → (ℕ → ℕ) → Type 0
Admits p facts Y = (views : List Note) × (k : ℕ) × (u : Note) × IsHandOf p Y views k u × ((i x : ℕ) → Has facts i x → Has u.facts i x)

-- each field of the block is noted
abbrev pub IsNoted : Plan → List Fact → Block → Type 0
IsNoted p facts b = (r f : ℕ) → IsIn r b → f ≤ p.letters → (x : ℕ) × Has facts (field_at p r f) x

-- the hand has no draft
abbrev pub IsFinished : Plan → Note → Type 0
IsFinished p v = (b : Block) → Owns v.own b → IsNoted p v.facts b

-- where all fields of the block are noted, the rows are known to be pairwise unlike
abbrev pub EndsReduced : Plan → List Fact → Block → Type 0
EndsReduced p facts b = IsNoted p facts b → (Y : ℕ → ℕ) → Agrees facts Y → IsReduced p Y b

-- the field f of the row r, in the block b of the hand, is not filled and may become x
pub record MayFill (p : Plan) (v : Note) (b : Block) (r f x : ℕ) : Type 0 where
  pub owned : Owns v.own b
  pub inside : IsIn r b
  pub field : f ≤ p.letters
  pub empty : (y : ℕ) → ¬ Has v.facts (field_at p r f) y
  pub some_value : 0 < x
  pub good : IsGood p.letters b f x
  pub ends : EndsReduced p (v.facts ++ fact (field_at p r f) x ∷ []) b

-- the hand saw a cell that names a row of the block
abbrev pub SawCell : Plan → Note → Block → Type 0
SawCell p v b = (c q : ℕ) × (c < p.cells) × IsIn q b × (b.size ≤ 1024) × Has v.facts (cell_at p c) (pack_of b q)

-- the hand saw a link that names a row of the block
abbrev pub SawLink : Plan → Note → Block → Type 0
SawLink p v b = (r q : ℕ) × (r < p.capacity) × IsIn q b × (b.size ≤ 1024) × Has v.facts (link_at p r) (pack_of b q)

-- the block is known to be complete: the hand finished it, or saw a cell or a link that names one of its rows
abbrev pub IsComplete : Plan → Note → Block → Type 0
IsComplete p v b = (Owns v.own b × IsNoted p v.facts b) ⊎ (SawCell p v b ⊎ SawLink p v b)

-- the cell j of a walk from the home h is known to be full of a row that is unlike the row r of b
abbrev pub SawUnlike : Plan → Note → Block → ℕ → ℕ → ℕ → Type 0
SawUnlike p v b r h j = (d : Block) × (q : ℕ) × Has v.facts (cell_at p ((h + j) % p.cells)) (pack_of d q) × IsIn q d × (d.size ≤ 1024) × ((Y : ℕ → ℕ) → Admits p v.facts Y → ¬ SameMeaning p Y b r d q)

-- The row r of b may be put into the cell c: its block is known to be complete, and from its home to that cell the hand saw only full cells with unlike rows
pub record MayEnter (p : Plan) (v : Note) (b : Block) (r c : ℕ) : Type 0 where
  pub complete : IsComplete p v b
  pub inside : IsIn r b
  pub code : List ℕ
  pub coded : (Y : ℕ → ℕ) → Admits p v.facts Y → IsCode p.letters (row_meaning p Y b r) code
  pub distance : ℕ
  pub place : c ≡ (home_of code p.cells + distance) % p.cells
  pub before : (j : ℕ) → j < distance → SawUnlike p v b r (home_of code p.cells) j

-- The link of the row r may name the row q of d: the block of r is known to be complete, a cell that the hand saw names q, and the two rows are known to act alike
pub record MayLink (p : Plan) (v : Note) (r : ℕ) (d : Block) (q : ℕ) : Type 0 where
  pub own : Block
  pub complete : IsComplete p v own
  pub inside : IsIn r own
  pub cell : ℕ
  pub cell_below : cell < p.cells
  pub seen : Has v.facts (cell_at p cell) (pack_of d q)
  pub there : IsIn q d
  pub sized : d.size ≤ 1024
  pub alike : (Y : ℕ → ℕ) → Admits p v.facts Y → SameMeaning p Y own r d q

-- the hand knows the handle of the row a of b: it saw the link of the row name the row itself
abbrev pub SawItself : Plan → Note → ℕ → Block → Type 0
SawItself p v a b = (a < p.capacity) × IsIn a b × (b.size ≤ 1024) × Has v.facts (link_at p a) (pack_of b a)

-- x may be put into the cache: it names three handles that the hand knows, and the third is known to be the product of the others, which have at most 65,536 pairs
pub record MayCache (p : Plan) (v : Note) (x : ℕ) : Type 0 where
  pub first : ℕ
  pub second : ℕ
  pub third : ℕ
  pub first_block : Block
  pub second_block : Block
  pub third_block : Block
  pub names : x ≡ product_word first second third
  pub first_seen : SawItself p v first first_block
  pub second_seen : SawItself p v second second_block
  pub third_seen : SawItself p v third third_block
  pub product : (Y : ℕ → ℕ) → Admits p v.facts Y → IsAlike (row_meaning p Y third_block third) (Product (row_meaning p Y first_block first) (row_meaning p Y second_block second))
  pub few : (Y : ℕ → ℕ) → Admits p v.facts Y → HasFewPairs p.letters (row_meaning p Y first_block first) (row_meaning p Y second_block second)

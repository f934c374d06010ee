-- What the words of the table say, where they are lawful: blocks that are written, cells, links, and products in the cache. The layout is this project's own; the
-- cells are a hash table with open addressing and linear probing (Knuth, The Art of Computer Programming, 6.4).
use Rattle.std.specs.Prelude.{◌≡◌, ℕ, ◌+◌, ◌<◌, ◌≤◌, List}
use Rattle.fr_model.specs.Terms.{Product, IsAlike}
use Rattle.fr_model.specs.Classes.{HasFewPairs}
use Rattle.fr_model.specs.Canonical.{IsCode}
use Rattle.fr_canon.specs.Codes.{home_of}
use Rattle.fr_layout.specs.declared.plan.Plan.{Plan}
use Rattle.fr_layout.specs.declared.plan.Block.{Block}
use Rattle.fr_layout.specs.Places.{field_at, link_at, cell_at, on_walk, IsIn}
use Rattle.fr_layout.specs.Packs.{pack_of, product_word}
use Rattle.fr_layout.specs.Meaning.{row_meaning, SameMeaning, IsFull, IsGood, IsReduced}

-- The content of each word becomes W, where it was V: word 0 does not fall, and each other word stays where it is not 0
pub record Grows (V W : ℕ → ℕ) : Type 0 where
  pub claim : V 0 ≤ W 0
  pub keeps : (i : ℕ) → 0 < i → 0 < V i → W i ≡ V i

-- W is the content of each word
module _ (p : Plan) (W : ℕ → ℕ) where
  -- the block is claimed, each of its fields is written, and no two of its rows act alike
  pub record IsWritten (b : Block) : Type 0 where
    pub claimed : b.start + b.size ≤ W 0
    pub sized : b.size ≤ 1024
    pub full : IsFull p W b
    pub good : (r f : ℕ) → IsIn r b → f ≤ p.letters → IsGood p.letters b f (W (field_at p r f))
    pub reduced : IsReduced p W b

  -- the word i is a cell with the row r of b, and no cell before it on the walk from the row's home is empty
  pub record IsPlaced (i : ℕ) (b : Block) (r : ℕ) : Type 0 where
    pub names : W i ≡ pack_of b r
    pub inside : IsIn r b
    pub written : IsWritten b
    pub code : List ℕ
    pub coded : IsCode p.letters (row_meaning p W b r) code
    pub distance : ℕ
    pub place : i ≡ on_walk p (home_of code p.cells) distance
    pub before : (j : ℕ) → j < distance → 0 < W (on_walk p (home_of code p.cells) j)

  -- the link of the row r names a row that stands in a cell and acts alike
  pub record IsLinked (r : ℕ) : Type 0 where
    pub own : Block
    pub inside : IsIn r own
    pub written : IsWritten own
    pub cell : ℕ
    pub cell_below : cell < p.cells
    pub block : Block
    pub row : ℕ
    pub placed : IsPlaced (cell_at p cell) block row
    pub names : W (link_at p r) ≡ pack_of block row
    pub alike : SameMeaning p W own r block row

  -- the link of the row a of b names that row itself
  abbrev pub NamesItself : ℕ → Block → Type 0
  NamesItself a b = (a < p.capacity) × IsIn a b × (b.size ≤ 1024) × (W (link_at p a) ≡ pack_of b a)

  -- x names three rows whose links name themselves. The third is the product of the others, which have at most 65,536 pairs of sections
  pub record IsProductOf (x : ℕ) : Type 0 where
    pub first : ℕ
    pub second : ℕ
    pub third : ℕ
    pub first_block : Block
    pub second_block : Block
    pub third_block : Block
    pub names : x ≡ product_word first second third
    pub first_named : NamesItself first first_block
    pub second_named : NamesItself second second_block
    pub third_named : NamesItself third third_block
    pub product : IsAlike (row_meaning p W third_block third) (Product (row_meaning p W first_block first) (row_meaning p W second_block second))
    pub few : HasFewPairs p.letters (row_meaning p W first_block first) (row_meaning p W second_block second)

  -- a cache word: 0, or a product
  abbrev pub IsCached : ℕ → Type 0
  IsCached x = 0 < x → IsProductOf x

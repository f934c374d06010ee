-- What a hand knows that fills a block of its own and publishes its rows. This project's own.
use Rattle.std.specs.Prelude.{◌≡◌, ◌⊎◌, ℕ, ◌+◌, ◌<◌, ◌≤◌, List, length}
use Rattle.fr_machine.specs.declared.row.Row.{Row}
use Rattle.fr_machine.specs.Rows.{IsMachine, row_at}
use Rattle.fr_layout.specs.declared.plan.Plan.{Plan}
use Rattle.fr_layout.specs.declared.plan.Block.{Block}
use Rattle.fr_layout.specs.Places.{field_at, link_at, IsIn}
use Rattle.fr_layout.specs.Meaning.{field_value}
use Rattle.fr_words.specs.Members.{Has, Owns}
use Rattle.fr_words.specs.Asks.{SawItself}
use Rattle.fr_words.specs.declared.notes.Note.{Note}

-- the rows of a table from `start` on, as many as the machine has
abbrev pub block_at : ℕ → List Row → Block
block_at start rows = record { start = start; size = length rows }

-- the facts say each field of the machine, whose block begins at `start`
abbrev pub AreNoted : Plan → Note → ℕ → List Row → Type 0
AreNoted p v start rows = (r f : ℕ) → r < length rows → f ≤ p.letters → Has v.facts (field_at p (start + r) f) (field_value start (row_at rows r) f)

-- the hand claimed the block, and has filled its fields before the word `next` and no others
pub record IsFilling (p : Plan) (v : Note) (start : ℕ) (rows : List Row) (next : ℕ) : Type 0 where
  pub owned : Owns v.own (block_at start rows)
  pub done : (r f : ℕ) → r < length rows → f ≤ p.letters → field_at p (start + r) f < next → Has v.facts (field_at p (start + r) f) (field_value start (row_at rows r) f)
  pub unfilled : (r f y : ℕ) → r < length rows → f ≤ p.letters → next ≤ field_at p (start + r) f → ¬ Has v.facts (field_at p (start + r) f) y

-- the hand claimed the block, and has noted each of its fields
pub record HasFilled (p : Plan) (v : Note) (start : ℕ) (rows : List Row) : Type 0 where
  pub owned : Owns v.own (block_at start rows)
  pub fields : AreNoted p v start rows

-- the hand knows the handles of the first n rows
abbrev pub KnowsHandles : Plan → Note → ℕ → List Row → ℕ → Type 0
KnowsHandles p v start rows n = (r : ℕ) → r < n → SawItself p v (start + r) (block_at start rows)

-- the hand knows the handle of each row, and has noted each field
pub record KnowsRows (p : Plan) (v : Note) (start : ℕ) (rows : List Row) : Type 0 where
  pub handles : KnowsHandles p v start rows (length rows)
  pub fields : AreNoted p v start rows

-- the row r of the machine is a handle that the hand knows
abbrev pub IsPublished : Plan → Note → ℕ → List Row → ℕ → Type 0
IsPublished p v start rows r = (r < length rows) × IsMachine p.letters rows × KnowsRows p v start rows

-- a later note has all that was noted, the same claims, and no further links but those of the block
pub record Adds (p : Plan) (start : ℕ) (rows : List Row) (old new : Note) : Type 0 where
  pub own : new.own ≡ old.own
  pub keeps : (i x : ℕ) → Has old.facts i x → Has new.facts i x
  pub links : (a x : ℕ) → a < p.capacity → Has new.facts (link_at p a) x → Has old.facts (link_at p a) x ⊎ IsIn a (block_at start rows)

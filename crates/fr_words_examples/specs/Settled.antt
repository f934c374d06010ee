-- When a hand knows with each handle the handles of its sections, from what it noted. This project's own.
use Rattle.std.specs.Prelude.{◌≡◌, ◌≢◌, ℕ, ◌+◌, ◌-◌, ◌/◌, ◌%◌, ◌<◌, ◌≤◌, Bool, true, nat_eq, nat_lt, ◌&&◌, if◌then◌else◌, List, [], ◌∷◌}
use Rattle.fr_model.specs.Words.{IsLetter}
use Rattle.fr_layout.specs.declared.plan.Plan.{Plan}
use Rattle.fr_layout.specs.declared.plan.Block.{Block}
use Rattle.fr_layout.specs.Places.{field_at, link_at, IsIn}
use Rattle.fr_words.specs.declared.notes.Fact.{Fact}
use Rattle.fr_words.specs.declared.notes.Note.{Note}
use Rattle.fr_words.specs.Notes.{newcomer}

-- the block and the row of a pack
abbrev pub block_of : ℕ → Block
block_of x = record { start = (x - 1) / 1048576; size = (x - 1) / 1024 % 1024 + 1 }

abbrev pub row_of : ℕ → ℕ
row_of x = (x - 1) / 1048576 + (x - 1) % 1024

-- what is noted of a word first, and 0 where nothing is
abbrev pub value_in : List Fact → ℕ → ℕ
value_in [] i = 0
value_in (f ∷ fs) i = if nat_eq f.word i then f.value else value_in fs i

-- in the words Y the link of the row n names the row itself
abbrev pub names_itself : Plan → (ℕ → ℕ) → ℕ → Bool
names_itself p Y n = nat_lt n p.capacity && (nat_lt 0 (Y (link_at p n)) && nat_eq (row_of (Y (link_at p n))) n)

-- the block that the link of the row n names
abbrev pub handle_block : Plan → (ℕ → ℕ) → ℕ → Block
handle_block p Y n = block_of (Y (link_at p n))

-- the row that the row n leads to at a letter, by its field
abbrev pub next_row : Plan → (ℕ → ℕ) → ℕ → ℕ → ℕ
next_row p Y n x = Y (field_at p n x) - 1

-- The block of the handle n was read, and the link of the next row at each letter leads to a handle that names itself
pub record IsSettledAt (p : Plan) (Y : ℕ → ℕ) (n : ℕ) : Type 0 where
  pub read : (r f : ℕ) → IsIn r (handle_block p Y n) → f ≤ p.letters → 0 < Y (field_at p r f)
  pub linked : (x : ℕ) → IsLetter p.letters x → 0 < Y (link_at p (next_row p Y n x))
  pub handle : (x : ℕ) → IsLetter p.letters x → names_itself p Y (row_of (Y (link_at p (next_row p Y n x)))) ≡ true

-- this holds of each handle that these words name
abbrev pub IsSettledIn : Plan → (ℕ → ℕ) → Type 0
IsSettledIn p Y = (n : ℕ) → names_itself p Y n ≡ true → IsSettledAt p Y n

abbrev pub IsSettled : Note → Type 0
IsSettled v = IsSettledIn v.plan (value_in v.facts)

-- the first hand of a new table knows no handle yet
pub record NewHandsAreSettled : Type 0 where
  pub none : (p : Plan) (n : ℕ) → names_itself p (value_in (newcomer p).facts) n ≢ true
  pub settled : (p : Plan) → IsSettled (newcomer p)

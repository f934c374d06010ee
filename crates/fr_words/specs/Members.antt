-- What stands in the lists of a note. This project's own.
use Rattle.std.specs.Prelude.{◌≡◌, ◌⊎◌, ℕ, ◌+◌, List, [], ◌∷◌, nat_eq}
use Rattle.fr_line.specs.Lines.{only_if}
use Rattle.fr_layout.specs.declared.plan.Block.{Block}
use Rattle.fr_layout.specs.Places.{is_in}
use Rattle.fr_words.specs.declared.notes.Fact.{Fact}
use Rattle.fr_words.specs.declared.notes.Claim.{Claim}

-- the facts have the word i with the value x
abbrev pub Has : List Fact → ℕ → ℕ → Type 0
Has [] i x = ⊥
Has (f ∷ fs) i x = ((f.word ≡ i) × (f.value ≡ x)) ⊎ Has fs i x

-- the block is one of those that were claimed
abbrev pub Owns : List Claim → Block → Type 0
Owns [] b = ⊥
Owns (c ∷ cs) b = (c.block ≡ b) ⊎ Owns cs b

-- how many of the claimed blocks have the row r
abbrev pub covers : ℕ → List Claim → ℕ
covers r [] = 0
covers r (c ∷ cs) = only_if (is_in r c.block) 1 + covers r cs

-- how many rows the claimed blocks have together
abbrev pub rows_of : List Claim → ℕ
rows_of [] = 0
rows_of (c ∷ cs) = c.block.size + rows_of cs

-- how often i stands in the list
abbrev pub times : ℕ → List ℕ → ℕ
times i [] = 0
times i (x ∷ xs) = only_if (nat_eq i x) 1 + times i xs

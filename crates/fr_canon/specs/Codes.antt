-- The hash of a code: this project's own.
use Rattle.std.specs.Prelude.{ℕ, ◌+◌, ◌*◌, ◌/◌, ◌%◌, List, [], ◌∷◌}

-- the hash of the numbers, after those that gave h
abbrev pub hash_from : ℕ → List ℕ → ℕ
hash_from h [] = h
hash_from h (c ∷ cs) = hash_from ((h * 1000003 + c) % 4294967296) cs

-- the cell at which the search for a code begins
abbrev pub home_of : List ℕ → ℕ → ℕ
home_of code cells = (hash_from 7 code / 128) % cells

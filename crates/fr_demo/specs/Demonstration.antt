-- The script of the demonstration: some automata that are known, and questions whose names are drawn. The script is this
-- project's own, and the draws are those of a linear congruential generator.
use Rattle.std.specs.Prelude.{ℕ, zero, suc, ◌+◌, ◌*◌, ◌/◌, ◌%◌, List, [], ◌∷◌, ◌++◌, codes, slice_index}

-- The state after the one that is given, with the multiplier and the increment of Press, Teukolsky, Vetterling and
-- Flannery, Numerical Recipes, "An Even Quicker Generator".
abbrev pub next : ℕ → ℕ
next s = (1664525 * s + 1013904223) % 4294967296

-- the state after k draws
unfoldable pub state : ℕ → ℕ → ℕ
state seed zero = seed
state seed (suc k) = next (state seed k)

-- the name that a state draws: its eight highest bits choose one of seven
abbrev pub name_at : ℕ → ℕ
name_at s = slice_index (codes "abcdtpq") (s / 16777216 % 7)

-- the name of the draw k, of which the first is the draw 1
abbrev pub drawn : ℕ → ℕ → ℕ
drawn seed k = name_at (state seed k)

-- a question with these names
abbrev pub question_of : ℕ → ℕ → ℕ → ℕ → List ℕ
question_of x y z w = codes "eq " ++ (x ∷ codes "*") ++ (y ∷ codes " ") ++ (z ∷ codes "*") ++ (w ∷ codes "\n")

-- the question i, of which the first is the question 0, asks about four draws in order
abbrev pub question : ℕ → ℕ → List ℕ
question seed i = question_of (drawn seed (4 * i + 1)) (drawn seed (4 * i + 2)) (drawn seed (4 * i + 3)) (drawn seed (4 * i + 4))

-- the first n questions in order
unfoldable pub questions : ℕ → ℕ → List ℕ
questions seed zero = []
questions seed (suc n) = questions seed n ++ question seed n

-- the block in front of them
abbrev pub definitions : List ℕ
definitions = codes "group\na = (1,2)\nb = <a,c>\nc = <a,d>\nd = <1,b>\nt = <1,t>(1,2)\np = <1,q>\nq = <1,p>(1,2)\nend\n"

-- the script for a seed
abbrev pub demonstration : ℕ → List ℕ
demonstration seed = definitions ++ questions seed 1991

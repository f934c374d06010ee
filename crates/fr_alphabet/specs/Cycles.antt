-- The cycles of a permutation, and cycle notation: `(1,3)(2,5,4)`, where letters that stay are left out.
use Rattle.std.specs.Prelude.{ℕ, zero, suc, ◌==◌, nat_le, Bool, not, ◌&&◌, if◌then◌else◌, List, [], ◌∷◌, ◌++◌, length, map, filter, flat_map}
use Rattle.std.specs.List.{before_first, list_all, join_with_byte}
use Rattle.fr_model.specs.Permutations.{image, identity_permutation}
use Rattle.fr_alphabet.specs.Writing.{letter_digit}

-- x, its image, the image of that, and so on: n of them
abbrev pub iterates : List ℕ → ℕ → ℕ → List ℕ
iterates p zero x = []
iterates p (suc n) x = x ∷ iterates p n (image p x)

-- y, its image, and so on, up to where x comes
abbrev pub path : List ℕ → ℕ → ℕ → List ℕ
path p x y = before_first (λ z. z == x) (iterates p (length p) y)

-- the cycle of x, from x on
abbrev pub cycle_of : List ℕ → ℕ → List ℕ
cycle_of p x = x ∷ path p x (image p x)

-- whether x is moved, and is the least letter of its cycle
abbrev pub begins_cycle : List ℕ → ℕ → Bool
begins_cycle p x = not (image p x == x) && list_all (nat_le x) (cycle_of p x)

-- the cycles of two letters or more, each from its least letter on, in order of these letters
abbrev pub cycles_of : List ℕ → List (List ℕ)
cycles_of p = map (cycle_of p) (filter (begins_cycle p) (identity_permutation (length p)))

-- where y goes in a cycle that begins with x, from a place in it on: to the next letter, from the last one to x
abbrev pub next_in : ℕ → List ℕ → ℕ → ℕ
next_in x [] y = y
next_in x (z ∷ []) y = if y == z then x else y
next_in x (z ∷ w ∷ c) y = if y == z then w else next_in x (w ∷ c) y

-- where y goes in a cycle; y itself where it does not stand in it
abbrev pub cycle_image : List ℕ → ℕ → ℕ
cycle_image [] y = y
cycle_image (x ∷ c) y = next_in x (x ∷ c) y

-- where y goes in the product of cycles, the first of them first
abbrev pub cycles_image : List (List ℕ) → ℕ → ℕ
cycles_image [] y = y
cycles_image (c ∷ cs) y = cycles_image cs (cycle_image c y)

-- a cycle's letters, with commas (44) between them, in parentheses (40 and 41)
abbrev pub cycle_text : List ℕ → List ℕ
cycle_text c = 40 ∷ join_with_byte 44 (map (λ x. letter_digit x ∷ []) c) ++ 41 ∷ []

-- the cycles one after the other
abbrev pub cycles_text : List ℕ → List ℕ
cycles_text p = flat_map cycle_text (cycles_of p)

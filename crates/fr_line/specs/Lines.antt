-- The tree of the splits of seats. A seat holds some of its nodes, which are its line, and a split gives a new node, a child of one of them, to the new seat.
-- A node is named by its address, a list of numbers: those of the children on the way to it, the last one first. The notion is this project's own.
use Rattle.std.specs.Prelude.{◌≡◌, ℕ, suc, ◌+◌, ◌<◌, List, [], ◌∷◌, length, Bool, true, false, nat_eq, nat_lt, ◌&&◌}
use Rattle.fr_line.specs.declared.Branch.{Branch}

-- the address a with n children
abbrev pub branch : List ℕ → ℕ → Branch
branch a n = record { address = a; count = n }

-- whether two addresses are the same
abbrev pub is_same : List ℕ → List ℕ → Bool
is_same [] [] = true
is_same [] (y ∷ ys) = false
is_same (x ∷ xs) [] = false
is_same (x ∷ xs) (y ∷ ys) = nat_eq x y && is_same xs ys

-- n where the test is true
abbrev pub only_if : Bool → ℕ → ℕ
only_if true n = n
only_if false n = 0

-- 1 where k is below n
abbrev pub below : ℕ → ℕ → ℕ
below k n = only_if (nat_lt k n) 1

-- how often the address stands in a line
abbrev pub here : List ℕ → List Branch → ℕ
here a [] = 0
here a (b ∷ bs) = only_if (is_same a b.address) 1 + here a bs

-- the count of the address in a line
abbrev pub count : List ℕ → List Branch → ℕ
count a [] = 0
count a (b ∷ bs) = only_if (is_same a b.address) b.count + count a bs

-- f of each, added up
abbrev pub total : {V : Type 0} → (V → ℕ) → List V → ℕ
total f [] = 0
total f (v ∷ vs) = f v + total f vs

-- The root stands in the line of one seat, and once. So does each child of an address, and no other address does. The views are what the seats note, their lines among it.
pub record Woven {V : Type 0} (line : V → List Branch) (views : List V) : Type 0 where
  pub root : total (λ v. here [] (line v)) views ≡ 1
  pub child : (k : ℕ) (a : List ℕ) → total (λ v. here (k ∷ a) (line v)) views ≡ below k (total (λ v. count a (line v)) views)

-- The line has the root and, with each address, all its children
pub record Whole (l : List Branch) : Type 0 where
  pub root : 0 < here [] l
  pub child : (k : ℕ) (a : List ℕ) → k < count a l → 0 < here (k ∷ a) l

-- The lines of all seats, by themselves, make the tree
abbrev pub IsTree : List (List Branch) → Type 0
IsTree lines = Woven (λ (l : List Branch). l) lines

-- the line of the first seat: the root, without children
abbrev pub first_line : List Branch
first_line = branch [] 0 ∷ []

-- what a split leaves the seat: the first of its nodes has one child more
abbrev pub cut : List Branch → List Branch
cut [] = []
cut (b ∷ bs) = branch b.address (suc b.count) ∷ bs

-- what a split gives the new seat: that child
abbrev pub sprout : List Branch → List Branch
sprout [] = []
sprout (b ∷ bs) = branch (b.count ∷ b.address) 0 ∷ []

-- a seat that is not spent has a node
abbrev pub IsLive : List Branch → Type 0
IsLive l = 0 < length l

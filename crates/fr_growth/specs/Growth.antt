-- The numbers that certificates tell: bounds on how many words of each length a term is active at. This project's own.
use Rattle.std.specs.Prelude.{ℕ, ◌+◌, ◌*◌, ◌^◌, ◌≤◌, ◌↔◌, List, [], ◌∷◌, length}
use Rattle.fr_model.specs.Terms.{Term}
use Rattle.fr_model.specs.Activity.{IsActivity, Link}
use Rattle.fr_growth.specs.declared.growth_class.Class.{Class}
use Rattle.fr_growth.specs.declared.growth_class.Class.TheVariants.{Finitary, Polynomial, Exponential}

-- the letters on the ways from link to link
abbrev pub ways : List Link → ℕ
ways [] = 0
ways (l ∷ ls) = length l.at + ways ls

-- the product of the lengths of the cycles
abbrev pub rounds : List Link → ℕ
rounds [] = 1
rounds (l ∷ ls) = length l.back * rounds ls

-- the count of active words of each length is one number
abbrev pub IsCounted : ℕ → Term → Type 0
IsCounted d t = (n : ℕ) → (c : ℕ) × IsActivity d n t c

-- of a term with so many sections: an upper bound at each length, and a lower bound at lengths that the chain tells
pub record HasPolynomialNumbers (d size : ℕ) (t : Term) (k : ℕ) (links : List Link) : Type 0 where
  pub counted : IsCounted d t
  pub most : (n c : ℕ) → IsActivity d n t c → c ≤ (d + 1) ^ size * (n + 1) ^ k
  pub least : (j c : ℕ) → IsActivity d (ways links + (k + 1) * j * rounds links) t c → (j + 1) ^ k ≤ c

-- a lower bound at lengths that the triple tells
pub record HasExponentialNumbers (d : ℕ) (t : Term) (at u : List ℕ) : Type 0 where
  pub counted : IsCounted d t
  pub least : (j c : ℕ) → IsActivity d (length at + j * length u) t c → 2 ^ j ≤ c

-- no active word exactly from the depth on
pub record HasFinitaryNumbers (d : ℕ) (t : Term) (depth : ℕ) : Type 0 where
  pub counted : IsCounted d t
  pub none : (n : ℕ) → IsActivity d n t 0 ↔ (depth ≤ n)

-- the numbers that the class tells, for a term with so many sections
abbrev pub HasNumbers : ℕ → ℕ → Term → Class → Type 0
HasNumbers d size t (Finitary depth) = HasFinitaryNumbers d t depth
HasNumbers d size t (Polynomial degree chain) = HasPolynomialNumbers d size t degree chain.items
HasNumbers d size t (Exponential at u v) = HasExponentialNumbers d t at u

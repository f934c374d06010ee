-- What an answered class says of a term, by cases. The classes are Sidki's; the certificates are this project's own.
use Rattle.std.specs.Prelude.{ℕ, ◌≡◌, ◌+◌, List, length}
use Rattle.fr_model.specs.Terms.{Term}
use Rattle.fr_model.specs.Activity.{Link, IsFinitary, IsChain, HasDegree, IsLeastTriple}
use Rattle.fr_growth.specs.declared.growth_class.Class.{Class}
use Rattle.fr_growth.specs.declared.growth_class.Class.TheVariants.{Finitary, Polynomial, Exponential}

-- t has degree k, and the chain shows it
pub record IsPolynomialBy (d : ℕ) (t : Term) (k : ℕ) (links : List Link) : Type 0 where
  pub degree : HasDegree d t k
  pub count : length links ≡ k + 1
  pub chain : IsChain d t links

-- the depth is the least, the degree is exact and has its chain, the triple is the least
abbrev pub IsClass : ℕ → Term → Class → Type 0
IsClass d t (Finitary depth) = IsFinitary d t depth
IsClass d t (Polynomial degree chain) = IsPolynomialBy d t degree chain.items
IsClass d t (Exponential at u v) = IsLeastTriple d t at u v

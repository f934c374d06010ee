-- Blocks of the program as systems of wreath recursions.
use Rattle.std.specs.Prelude.{ℕ, ◌≡◌, ◌<◌, ◌≤◌, Bool, false, List, [], ◌∷◌, length, map}
use Rattle.std.specs.List.{All}
use Rattle.fr_model.specs.Permutations.{IsPermutation}
use Rattle.fr_model.specs.Systems.{Factor, Wreath, System, IsSystem}
use Rattle.fr_model.specs.FreeWords.{cancel}
use Rattle.fr_block.specs.declared.block.Factor.{Factor as Member}
use Rattle.fr_block.specs.declared.block.Wreath.{Wreath as Recursion}

-- a name or an inverse of a name
abbrev pub factor_of : Member → Factor
factor_of f = record { name = f.name; inverse = f.inverse }

-- a product of such
abbrev pub product_of : List Member → List Factor
product_of fs = map factor_of fs

-- a wreath recursion
abbrev pub wreath_of : Recursion → Wreath
wreath_of r = record { perm = r.perm; sections = map (λ section. product_of section.items) r.sections.items }

-- the table of the names of a block, in their order
abbrev pub system_of : List Recursion → System
system_of rs = map wreath_of rs

-- what clauses see of a block: the number of letters, and the table
pub record BlockView : Type 0 where
  pub alphabet : ℕ
  pub system : System

-- a table over 2 to 8 letters, of at most 4,095 names
pub record IsBlock (d : ℕ) (s : System) : Type 0 where
  pub few : 2 ≤ d
  pub letters : d ≤ 8
  pub system : IsSystem d s
  pub most : length s ≤ 4095

-- a recursion over so many letters and names
pub record IsRecursion (d names : ℕ) (r : Recursion) : Type 0 where
  pub permutes : IsPermutation d r.perm
  pub arity : length r.sections.items ≡ d
  pub known : All (λ section. All (λ f. f.name < names) section.items) r.sections.items

-- the members of a product are names of the table
abbrev pub AreNames : System → List Factor → Type 0
AreNames s fs = All (λ f. f.name < length s) fs

-- whether the last member of a product is inverse to this one
abbrev pub ends_against : List Factor → Factor → Bool
ends_against [] f = false
ends_against (g ∷ []) f = cancel g f
ends_against (g ∷ h ∷ gs) f = ends_against (h ∷ gs) f

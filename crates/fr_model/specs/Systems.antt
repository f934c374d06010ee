-- Systems of wreath recursions, and the action of a product of names and inverses of names on words. Wreath recursions
-- are those of Nekrashevych, Self-Similar Groups, chapter 1; that sections may be products is as in the GAP package FR.
use Rattle.std.specs.Prelude.{ℕ, zero, suc, ◌≡◌, ◌<◌, Bool, true, false, not, List, [], ◌∷◌, ◌++◌, length, slice_index_or}
use Rattle.std.specs.List.{All, AllByRecursion}
use Rattle.fr_model.specs.Permutations.{IsPermutation, image, preimage}

-- a name of a system, or its inverse
pub record Factor : Type 0 where
  pub name : ℕ
  pub inverse : Bool

-- the wreath recursion of a name: its permutation, and for each letter the product that is its section
pub record Wreath : Type 0 where
  pub perm : List ℕ
  pub sections : List (List Factor)

-- a table of names: a name is the place of its recursion, from 0
abbrev pub System : Type 0
System = List Wreath

-- the recursion of a name; a name past the table leaves all as it is
abbrev pub wreath_at : System → ℕ → Wreath
wreath_at s n = slice_index_or s n (record { perm = []; sections = [] })

-- the section at x, and the empty product at a number that is no letter
abbrev pub section_at : List (List Factor) → ℕ → List Factor
section_at ss zero = []
section_at ss (suc k) = slice_index_or ss k []

-- the inverse of a name, or of its inverse
abbrev pub inverse_factor : Factor → Factor
inverse_factor f = record { name = f.name; inverse = not f.inverse }

-- the inverse of a product: the inverses of its members, the last first
abbrev pub inverse_product : List Factor → List Factor
inverse_product [] = []
inverse_product (f ∷ fs) = inverse_product fs ++ inverse_factor f ∷ []

-- one name or inverse at one letter: where the letter goes
abbrev pub factor_output : System → Factor → ℕ → ℕ
factor_output s f x = elim f.inverse [ true ↦ preimage (wreath_at s f.name).perm x | false ↦ image (wreath_at s f.name).perm x ]

-- its section there: the section of the name, or for an inverse the inverse of the section at the letter that goes there
abbrev pub factor_section : System → Factor → ℕ → List Factor
factor_section s f x = elim f.inverse [
  | true ↦ inverse_product (section_at (wreath_at s f.name).sections (preimage (wreath_at s f.name).perm x))
  | false ↦ section_at (wreath_at s f.name).sections x
]

-- where a product sends a letter, the first member first
abbrev pub product_output : System → List Factor → ℕ → ℕ
product_output s [] x = x
product_output s (f ∷ fs) x = product_output s fs (factor_output s f x)

-- what acts on the rest of the word: the sections of the members, each at the letter that comes to it
abbrev pub product_section : System → List Factor → ℕ → List Factor
product_section s [] x = []
product_section s (f ∷ fs) x = factor_section s f x ++ product_section s fs (factor_output s f x)

-- the action of a product on a word: it puts out a letter, and its section acts on the rest
abbrev pub act_product : System → List Factor → List ℕ → List ℕ
act_product s fs [] = []
act_product s fs (x ∷ w) = product_output s fs x ∷ act_product s (product_section s fs x) w

-- over d letters and a table of so many names
pub record IsWreath (d names : ℕ) (r : Wreath) : Type 0 where
  pub permutes : IsPermutation d r.perm
  pub arity : length r.sections ≡ d
  pub known : AllByRecursion (AllByRecursion (λ f. f.name < names)) r.sections

-- each recursion is over d letters and names of the table
abbrev pub IsSystem : ℕ → System → Type 0
IsSystem d s = All (IsWreath d (length s)) s

-- Free reduction of products of names and inverses, and the section words of a name: what the functional recursions of
-- the GAP package FR stand for. The limits are this project's own.
use Rattle.std.specs.Prelude.{ℕ, ◌≡◌, ◌<◌, ◌⊎◌, ◌==◌, Bool, true, false, not, ◌&&◌, if◌then◌else◌, List, [], ◌∷◌, length}
use Rattle.fr_model.specs.Words.{IsWord}
use Rattle.fr_model.specs.Systems.{Factor, System, product_section}
use Rattle.fr_model.specs.Classes.{HasMoreThan}

-- whether one of two is true and the other false
abbrev pub differ : Bool → Bool → Bool
differ true b = not b
differ false b = b

-- whether one is a name and the other the inverse of that name
abbrev pub cancel : Factor → Factor → Bool
cancel f g = (f.name == g.name) && differ f.inverse g.inverse

-- one more member before a reduced product
abbrev pub cons_reduced : Factor → List Factor → List Factor
cons_reduced f [] = f ∷ []
cons_reduced f (g ∷ gs) = if cancel f g then gs else f ∷ g ∷ gs

-- the product without names that stand next to their inverses, removed until none does
abbrev pub reduced : List Factor → List Factor
reduced [] = []
reduced (f ∷ fs) = cons_reduced f (reduced fs)

-- no name stands next to its inverse
abbrev pub IsReduced : List Factor → Type 0
IsReduced [] = Unit {0}
IsReduced (f ∷ []) = Unit {0}
IsReduced (f ∷ g ∷ gs) = (cancel f g ≡ false) × IsReduced (g ∷ gs)

-- the section of a product at a word, freely reduced at each letter
abbrev pub section_word : System → List Factor → List ℕ → List Factor
section_word s fs [] = fs
section_word s fs (x ∷ v) = section_word s (reduced (product_section s fs x)) v

-- the section words of a name
pub record IsSectionWord (d : ℕ) (s : System) (n : ℕ) (fs : List Factor) : Type 0 where
  pub at : List ℕ
  pub valid : IsWord d at
  pub is : fs ≡ section_word s (record { name = n; inverse = false } ∷ []) at

-- a section word of more than 4,096 members
pub record IsLongSectionWord (d : ℕ) (s : System) (n : ℕ) (fs : List Factor) : Type 0 where
  pub word : IsSectionWord d s n fs
  pub long : 4096 < length fs

-- the name has more than 8,192 section words, or one of more than 4,096 members
abbrev pub IsClosurePassed : ℕ → System → ℕ → Type 0
IsClosurePassed d s n = HasMoreThan (IsSectionWord d s n) (λ f g. f ≡ g) 8192 ⊎ ((fs : List Factor) × IsLongSectionWord d s n fs)

-- Limit sections, and the nucleus of the group of the swap of the first letter.
use Rattle.std.specs.Prelude.{[], ◌∷◌}
use Rattle.fr_model.specs.Terms.{Term, One, Name, Product, Section}
use Rattle.fr_model.specs.Nuclei.{IsLimitSection, IsNucleusMember, IsGeneratorSection, IsGroupElement, IsAbsorbing, IsNucleus, IsNucleusDepth}
use Rattle.fr_model_examples.specs.Groups.{grigorchuk}

-- 1 and the sections of the swap
abbrev pub SwapSections : Term → Type 0
SwapSections = IsGeneratorSection 2 (Name grigorchuk 0 ∷ [])

-- a of Grigorchuk's group is a section of b at words of unbounded length, and none of its own
pub record LimitSections : Type 0 where
  pub limit : IsLimitSection 2 (Name grigorchuk 1) (Name grigorchuk 0)
  pub not_own : ¬ IsLimitSection 2 (Name grigorchuk 0) (Name grigorchuk 0)
  pub member : IsNucleusMember 2 (IsGeneratorSection 2 (Name grigorchuk 1 ∷ [])) (Name grigorchuk 0)
  pub not_member : ¬ IsNucleusMember 2 SwapSections (Name grigorchuk 0)

-- the nucleus of the group of the swap is the identity, at depth 1
pub record SwapHasTrivialNucleus : Type 0 where
  pub absorbs : IsAbsorbing 2 SwapSections (One ∷ [])
  pub not_absorbs : ¬ IsAbsorbing 2 SwapSections (Name grigorchuk 0 ∷ [])
  pub nucleus : IsNucleus 2 SwapSections (One ∷ [])
  pub not_nucleus : ¬ IsNucleus 2 SwapSections (One ∷ Name grigorchuk 0 ∷ [])
  pub depth : IsNucleusDepth 2 SwapSections 1
  pub not_depth : ¬ IsNucleusDepth 2 SwapSections 0
  pub not_two : ¬ IsNucleusDepth 2 SwapSections 2

-- a product of sections is an element of the group, and a name is not written as one
pub record ElementsAreProducts : Type 0 where
  pub product : IsGroupElement SwapSections (Product One (Section (Name grigorchuk 0) []))
  pub not_name : ¬ IsGroupElement SwapSections (Name grigorchuk 0)

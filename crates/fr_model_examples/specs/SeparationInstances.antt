-- What tells the adding machine from its inverse, and that nothing tells their product from the identity.
use Rattle.std.specs.Prelude.{[], ◌∷◌, Some, None}
use Rattle.fr_model.specs.Terms.{Term, One, Name, Inverse, Product}
use Rattle.fr_model.specs.Separation.{IsShortlexBefore, IsSeparatingWord, IsSeparation}
use Rattle.fr_model_examples.specs.Groups.{adding_machine}

-- shorter words come first, and of one length those with the smaller first difference
pub record WordsAreOrdered : Type 0 where
  pub shorter : IsShortlexBefore (2 ∷ []) (1 ∷ 1 ∷ [])
  pub not_longer : ¬ IsShortlexBefore (1 ∷ 1 ∷ []) (2 ∷ [])
  pub smaller : IsShortlexBefore (1 ∷ 2 ∷ []) (2 ∷ 1 ∷ [])
  pub not_larger : ¬ IsShortlexBefore (2 ∷ 1 ∷ []) (1 ∷ 2 ∷ [])
  pub not_itself : ¬ IsShortlexBefore (1 ∷ 2 ∷ []) (1 ∷ 2 ∷ [])

-- the least word at which the adding machine and its inverse differ
pub record AddingMachineDiffersFromInverse : Type 0 where
  pub word : IsSeparatingWord 2 (Name adding_machine 0) (Inverse (Name adding_machine 0)) (1 ∷ 1 ∷ [])
  pub not_later : ¬ IsSeparatingWord 2 (Name adding_machine 0) (Inverse (Name adding_machine 0)) (2 ∷ 2 ∷ [])
  pub not_short : ¬ IsSeparatingWord 2 (Name adding_machine 0) (Inverse (Name adding_machine 0)) (1 ∷ [])
  pub not_empty : (t u : Term) → ¬ IsSeparatingWord 2 t u []
  pub some : IsSeparation 2 (Name adding_machine 0) (Inverse (Name adding_machine 0)) (Some (1 ∷ 1 ∷ []))
  pub not_some_later : ¬ IsSeparation 2 (Name adding_machine 0) (Inverse (Name adding_machine 0)) (Some (2 ∷ 2 ∷ []))
  pub not_none : ¬ IsSeparation 2 (Name adding_machine 0) (Inverse (Name adding_machine 0)) None

-- their product and the identity act alike
pub record AddingAndBackIsIdentity : Type 0 where
  pub none : IsSeparation 2 (Product (Name adding_machine 0) (Inverse (Name adding_machine 0))) One None
  pub not_some : ¬ IsSeparation 2 (Product (Name adding_machine 0) (Inverse (Name adding_machine 0))) One (Some (1 ∷ []))

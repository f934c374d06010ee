-- What steps hold: an element counts once, whichever steps make it.
use Rattle.std.specs.Prelude.{[], ◌∷◌, Some}
use Rattle.fr_plain.specs.Steps.{Looked, Identity, Defined}
use Rattle.fr_plain.specs.Held.{HoldsClasses}
use Rattle.fr_model_examples.specs.Groups.{adding_machine}
use Rattle.fr_plain_examples.specs.Scripts.{t_term}

-- t of the adding machine and its section 1 are two; that 1 and t are made again adds none, though 1 is charged
pub record AddingMachineHoldsTwo : Type 0 where
  pub holds : HoldsClasses 2 (Defined adding_machine 0 ∷ []) 2
  pub not_one : ¬ HoldsClasses 2 (Defined adding_machine 0 ∷ []) 1
  pub again : HoldsClasses 2 (Identity ∷ Defined adding_machine 0 ∷ Looked (Some t_term) ∷ []) 2
  pub not_charge : ¬ HoldsClasses 2 (Identity ∷ Defined adding_machine 0 ∷ Looked (Some t_term) ∷ []) 3

-- no step holds nothing
pub record NoStepHoldsNone : Type 0 where
  pub holds : HoldsClasses 2 [] 0
  pub not_one : ¬ HoldsClasses 2 [] 1

-- Sizes of the adding machine and of its square's pairs, and limits that they pass.
use Rattle.fr_model.specs.Terms.{Name}
use Rattle.fr_model.specs.Automata.{state_term}
use Rattle.fr_model.specs.Classes.{IsSize, HasMoreStates, IsPairCount, HasFewPairs, HasMorePairs}
use Rattle.fr_model_examples.specs.Groups.{adding_machine}
use Rattle.fr_model_examples.specs.Automata.{adding_states}

-- the adding machine has two sections
pub record AddingMachineHasTwoSections : Type 0 where
  pub two : IsSize 2 (state_term adding_states 0) 2
  pub not_one : ¬ IsSize 2 (state_term adding_states 0) 1
  pub not_three : ¬ IsSize 2 (state_term adding_states 0) 3
  pub more_than_one : HasMoreStates 2 (state_term adding_states 0) 1
  pub not_more_than_two : ¬ HasMoreStates 2 (state_term adding_states 0) 2

-- the adding machine with itself has four pairs of sections
pub record AddingMachineHasFourPairs : Type 0 where
  pub four : IsPairCount 2 (Name adding_machine 0) (Name adding_machine 0) 4
  pub not_three : ¬ IsPairCount 2 (Name adding_machine 0) (Name adding_machine 0) 3
  pub few : HasFewPairs 2 (Name adding_machine 0) (Name adding_machine 0)
  pub more_than_three : HasMorePairs 2 (Name adding_machine 0) (Name adding_machine 0) 3
  pub not_more_than_four : ¬ HasMorePairs 2 (Name adding_machine 0) (Name adding_machine 0) 4

-- Canonical numberings and codes.
use Rattle.std.specs.Prelude.{◌≡◌, [], ◌∷◌}
use Rattle.fr_model.specs.Terms.{Term}
use Rattle.fr_model.specs.Automata.{state_term}
use Rattle.fr_model.specs.Canonical.{IsLeastWord, IsCanonical, IsCode, code_of}
use Rattle.fr_model_examples.specs.Automata.{adding_states, adding_states_turned, adding_states_and_spare, grigorchuk_states}

-- 1 is the least word at which the adding machine has the identity for a section, and 2 is not the least for itself
pub record LeastWordsOfAddingMachine : Type 0 where
  pub nothing : IsLeastWord 2 (state_term adding_states 0) []
  pub one : IsLeastWord 2 (state_term adding_states 0) (1 ∷ [])
  pub not_two : ¬ IsLeastWord 2 (state_term adding_states 0) (2 ∷ [])

-- the canonical automaton of the adding machine has the adding machine first and the identity once
pub record AddingMachineIsNumbered : Type 0 where
  pub canonical : IsCanonical 2 (state_term adding_states 0) adding_states
  pub not_turned : ¬ IsCanonical 2 (state_term adding_states 0) adding_states_turned
  pub not_longer : ¬ IsCanonical 2 (state_term adding_states 0) adding_states_and_spare
  pub not_none : (t : Term) → ¬ IsCanonical 2 t []

-- a code has for each state the rank of its permutation and then its next states, from 1
pub record CodesAreWritten : Type 0 where
  pub adding : code_of adding_states ≡ 1 ∷ 2 ∷ 1 ∷ 0 ∷ 2 ∷ 2 ∷ []
  pub grigorchuk : code_of grigorchuk_states ≡ 0 ∷ 2 ∷ 3 ∷ 1 ∷ 4 ∷ 4 ∷ 0 ∷ 2 ∷ 5 ∷ 0 ∷ 4 ∷ 4 ∷ 0 ∷ 4 ∷ 1 ∷ []
  pub code : IsCode 2 (state_term adding_states 0) (1 ∷ 2 ∷ 1 ∷ 0 ∷ 2 ∷ 2 ∷ [])
  pub not_other_rank : ¬ IsCode 2 (state_term adding_states 0) (0 ∷ 2 ∷ 1 ∷ 0 ∷ 2 ∷ 2 ∷ [])
  pub not_turned : ¬ IsCode 2 (state_term adding_states 0) (0 ∷ 1 ∷ 1 ∷ 1 ∷ 1 ∷ 2 ∷ [])
  pub not_empty : (t : Term) → ¬ IsCode 2 t []

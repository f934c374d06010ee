-- Systems and terms over two letters, and what is none.
use Rattle.std.specs.Prelude.{[], ◌∷◌}
use Rattle.fr_model.specs.Systems.{IsSystem}
use Rattle.fr_model.specs.Terms.{Name, Section, IsTerm}
use Rattle.fr_model.specs.Automata.{IsAutomaton}
use Rattle.fr_model_examples.specs.Groups.{generator, recursion, adding_machine}
use Rattle.fr_model_examples.specs.Automata.{adding_states, swap_to_nowhere}

-- each permutation is over the alphabet, each list of sections has an entry for each letter, and each name is known
pub record TermsOverTwoLetters : Type 0 where
  pub system : IsSystem 2 adding_machine
  pub not_over_three : ¬ IsSystem 3 adding_machine
  pub not_permutation : ¬ IsSystem 2 (recursion (1 ∷ 1 ∷ []) ([] ∷ [] ∷ []) ∷ [])
  pub not_one_section : ¬ IsSystem 2 (recursion (2 ∷ 1 ∷ []) ([] ∷ []) ∷ [])
  pub not_unknown_name : ¬ IsSystem 2 (recursion (2 ∷ 1 ∷ []) ([] ∷ (generator 1 ∷ []) ∷ []) ∷ [])
  pub term : IsTerm 2 (Name adding_machine 0)
  pub not_past_table : ¬ IsTerm 2 (Name adding_machine 1)
  pub not_outside : ¬ IsTerm 2 (Section (Name adding_machine 0) (3 ∷ []))
  pub automaton : IsAutomaton 2 adding_states
  pub not_to_nowhere : ¬ IsAutomaton 2 swap_to_nowhere

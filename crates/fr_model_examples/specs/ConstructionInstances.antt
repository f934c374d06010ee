-- Automata for section words, inverses and products, with wrong ones refuted.
use Rattle.std.specs.Prelude.{◌≡◌, [], ◌∷◌}
use Rattle.fr_model.specs.Classes.{IsClassCount}
use Rattle.fr_model.specs.FreeWords.{IsSectionWord, IsClosurePassed}
use Rattle.fr_model.specs.Constructions.{IsClosure, IsInverseOf, IsProductOf, IsNameAutomaton}
use Rattle.fr_model_examples.specs.Groups.{generator, grigorchuk, doubling, growing}
use Rattle.fr_model_examples.specs.Automata.{adding_states, adding_inverse_states, swap_states, adding_then_swap_states, doubling_states, identity_states, swap_to_nowhere, identity_to_nowhere}

-- three section words: the name, its square and the empty one; the name comes first, and none is left out or doubled
pub record NamesHaveAutomata : Type 0 where
  pub three : IsClassCount (IsSectionWord 2 doubling 0) (λ f g. f ≡ g) 3
  pub closure : IsClosure 2 doubling ((generator 0 ∷ []) ∷ (generator 0 ∷ generator 0 ∷ []) ∷ [] ∷ []) doubling_states
  pub automaton : IsNameAutomaton 2 doubling 0 ((generator 0 ∷ []) ∷ (generator 0 ∷ generator 0 ∷ []) ∷ [] ∷ []) doubling_states
  pub not_other_product : ¬ IsClosure 2 doubling ((generator 0 ∷ []) ∷ (generator 0 ∷ []) ∷ [] ∷ []) doubling_states
  pub not_square_first : ¬ IsNameAutomaton 2 doubling 0 ((generator 0 ∷ generator 0 ∷ []) ∷ (generator 0 ∷ []) ∷ [] ∷ []) doubling_states
  pub not_two : ¬ IsNameAutomaton 2 doubling 0 ((generator 0 ∷ []) ∷ (generator 0 ∷ generator 0 ∷ []) ∷ []) doubling_states
  -- next states that do not exist are refused, though the swap has no section word but its own and the empty one
  pub not_to_nowhere : ¬ IsClosure 2 grigorchuk ((generator 0 ∷ []) ∷ []) swap_to_nowhere

-- section words that double without end pass the limit, and the three above do not
pub record ClosuresPass : Type 0 where
  pub passed : IsClosurePassed 2 growing 0
  pub not_passed : ¬ IsClosurePassed 2 doubling 0

-- the inverse of the adding machine has its next states at the letters that the adding machine sends there
pub record InverseAutomata : Type 0 where
  pub inverse : IsInverseOf 2 adding_states adding_inverse_states
  pub not_itself : ¬ IsInverseOf 2 adding_states adding_states
  pub own_inverse : IsInverseOf 2 swap_states swap_states

-- the adding machine, then the swap: pairs of states with the first factor's first
pub record ProductAutomata : Type 0 where
  pub product : IsProductOf 2 adding_states swap_states (0 ∷ 1 ∷ 0 ∷ []) (0 ∷ 1 ∷ 1 ∷ []) adding_then_swap_states
  pub not_swap_first : ¬ IsProductOf 2 swap_states adding_states (0 ∷ 1 ∷ 1 ∷ []) (0 ∷ 1 ∷ 0 ∷ []) adding_then_swap_states
  pub not_to_nowhere : ¬ IsProductOf 2 identity_states identity_states (0 ∷ []) (0 ∷ []) identity_to_nowhere

-- States that words lead to, and states that are reached from cycles.
use Rattle.fr_model.specs.Automata.{IsReached, IsLimitState}
use Rattle.fr_model_examples.specs.Automata.{adding_states, swap_states, grigorchuk_states}

-- the adding machine leads to itself and to the identity, which leads to itself alone
pub record StatesAreReached : Type 0 where
  pub itself : IsReached 2 adding_states 0 0
  pub identity : IsReached 2 adding_states 0 1
  pub not_back : ¬ IsReached 2 adding_states 1 0

-- the swap lies on no cycle and no cycle leads to it; in Grigorchuk's group b is on a cycle, which leads to the swap a
pub record StatesAreLimits : Type 0 where
  pub on_cycle : IsLimitState 2 adding_states 0
  pub identity : IsLimitState 2 swap_states 1
  pub not_swap : ¬ IsLimitState 2 swap_states 0
  pub below_cycle : IsLimitState 2 grigorchuk_states 1

-- Systems, terms and automata over two letters, and what is none.
use Rattle.std.proofs.Common.{◌≡◌, ◌<◌, false, [], ◌∷◌, arith, eqb}
use Rattle.std.specs.List.{IsDistinct}
use Rattle.fr_model.specs.Systems.{IsSystem}
use Rattle.fr_model.proofs.AutomatonLaws.{state_is}
use Rattle.fr_model_examples.specs.Groups.{recursion}
use Rattle.fr_model_examples.specs.Automata.{swap_to_nowhere}
use Rattle.fr_model_examples.specs.TermInstances.{TermsOverTwoLetters}
use Rattle.fr_model_examples.proofs.Letters.{IsAutomaton-adding}
use Rattle.fr_model_examples.proofs.AddingMachine.{t_term}

not_permutation : ¬ IsSystem 2 (recursion (1 ∷ 1 ∷ []) ([] ∷ [] ∷ []) ∷ [])
unfolding IsDistinct
not_permutation h = let e : eqb 1 1 ≡ false = (h 0 (recursion [] []) (omega arith)).permutes.distinct.0.0 in cc

pub over_two_letters : TermsOverTwoLetters
over_two_letters = record {
  system = t_term.0;
  not_over_three = λ h. omega (arith, (h 0 (recursion [] []) (omega arith)).arity);
  not_permutation = not_permutation;
  not_one_section = λ h. omega (arith, (h 0 (recursion [] []) (omega arith)).arity);
  not_unknown_name = λ h. omega (arith, (h 0 (recursion [] []) (omega arith)).known.1.0.0);
  term = t_term;
  not_past_table = λ h. omega (arith, h.1);
  not_outside = λ h. omega (arith, h.1.0.1);
  automaton = IsAutomaton-adding;
  not_to_nowhere = λ h. let b : 7 < 1 = (state_is 2 swap_to_nowhere 0 h (omega arith)).below 0 0 (omega arith) in omega arith;
}

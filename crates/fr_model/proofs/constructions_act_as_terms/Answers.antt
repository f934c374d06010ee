use Rattle.fr_model.proofs.AutomatonLaws.{section_state}
use Rattle.fr_model.proofs.ConstructionLaws.{closure_alike, name_automaton_alike, name_automaton_within, inverse_alike, product_alike}
use Rattle.fr_model.proofs.constructions_act_as_terms.Goals as goal

pub returns : goal.returns
returns c = record {
  section = section_state;
  closure = λ d s products qs i h c l t. closure_alike d s products qs h c i l t;
  name = name_automaton_alike;
  within = name_automaton_within;
  inverse = λ d ps qs i g c l. inverse_alike d ps qs g c i l;
  product = λ d ps qs rs lefts rights i f g c l. product_alike d ps qs rs lefts rights f g c i l;
}

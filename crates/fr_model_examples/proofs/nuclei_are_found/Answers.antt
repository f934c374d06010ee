use Rattle.fr_model_examples.proofs.NucleusFacts.{limit_sections, trivial_nucleus, elements_are_products}
use Rattle.fr_model_examples.proofs.nuclei_are_found.Goals as goal

pub returns-clause-limits : goal.returns-clause-limits
returns-clause-limits c = limit_sections

pub returns-clause-nucleus : goal.returns-clause-nucleus
returns-clause-nucleus c = trivial_nucleus

pub returns-clause-elements : goal.returns-clause-elements
returns-clause-elements c = elements_are_products

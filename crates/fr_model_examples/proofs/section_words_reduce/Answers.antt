use Rattle.std.proofs.Common.{refl}
use Rattle.fr_model_examples.proofs.ReductionFacts.{reductions}
use Rattle.fr_model_examples.proofs.section_words_reduce.Goals as goal

pub returns-clause-grigorchuk : goal.returns-clause-grigorchuk
returns-clause-grigorchuk c = record { word_1 = refl; word_2 = refl }

pub returns-clause-grigorchuk_with_product : goal.returns-clause-grigorchuk_with_product
returns-clause-grigorchuk_with_product c = record { word_1 = refl; word_2 = refl; word_3 = refl; word_4 = refl; word_5 = refl }

pub returns-clause-cancelling : goal.returns-clause-cancelling
returns-clause-cancelling c = record { word_1 = refl; word_2 = refl; word_3 = refl }

pub returns-clause-doubling : goal.returns-clause-doubling
returns-clause-doubling c = record { word_1 = refl; word_2 = refl; word_3 = refl }

pub returns-clause-ternary_products : goal.returns-clause-ternary_products
returns-clause-ternary_products c = record { word_1 = refl; word_2 = refl; word_3 = refl; word_4 = refl; word_5 = refl; word_6 = refl; word_7 = refl; word_8 = refl; word_9 = refl; word_10 = refl }

pub returns-clause-reductions : goal.returns-clause-reductions
returns-clause-reductions c = reductions

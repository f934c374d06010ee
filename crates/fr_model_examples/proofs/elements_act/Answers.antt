use Rattle.std.proofs.Common.{refl}
use Rattle.fr_model_examples.proofs.elements_act.Goals as goal

pub returns-clause-adding_machine : goal.returns-clause-adding_machine
returns-clause-adding_machine c = record { act_1 = refl; act_2 = refl; act_inverse_1 = refl; act_product_1 = refl; act_section_1 = refl; act_section_2 = refl; act_inverse_2 = refl; back_1 = refl }

pub returns-clause-grigorchuk : goal.returns-clause-grigorchuk
returns-clause-grigorchuk c = record { act_1 = refl; act_product_1 = refl; act_product_2 = refl; act_product_3 = refl; act_product_4 = refl; act_section_1 = refl; act_section_2 = refl; act_section_3 = refl; act_section_4 = refl; back_section_1 = refl }

pub returns-clause-basilica : goal.returns-clause-basilica
returns-clause-basilica c = record { act_1 = refl; act_product_1 = refl; act_inverse_1 = refl; act_section_1 = refl; back_product_1 = refl }

pub returns-clause-linear_growth : goal.returns-clause-linear_growth
returns-clause-linear_growth c = record { act_1 = refl; act_inverse_1 = refl }

pub returns-clause-lamplighter : goal.returns-clause-lamplighter
returns-clause-lamplighter c = record { act_1 = refl; act_inverse_1 = refl; act_section_1 = refl }

pub returns-clause-ternary_adding_machine : goal.returns-clause-ternary_adding_machine
returns-clause-ternary_adding_machine c = record { act_1 = refl; act_inverse_1 = refl; act_product_1 = refl; act_section_1 = refl; act_section_2 = refl; back_1 = refl; back_section_1 = refl }

pub returns-clause-cancelling : goal.returns-clause-cancelling
returns-clause-cancelling c = record { act_1 = refl; act_product_1 = refl }

pub returns-clause-doubling : goal.returns-clause-doubling
returns-clause-doubling c = record { act_product_1 = refl }

pub returns-clause-grigorchuk_with_product : goal.returns-clause-grigorchuk_with_product
returns-clause-grigorchuk_with_product c = record { act_1 = refl; act_section_1 = refl; act_inverse_1 = refl }

pub returns-clause-strangers : goal.returns-clause-strangers
returns-clause-strangers c = record { name_past_table = refl; no_letter = refl; zero_letter = refl }

use Rattle.std.proofs.Common.{refl}
use Rattle.fr_model_examples.proofs.PermutationFacts.{refused, swap_rank}
use Rattle.fr_model_examples.proofs.permutations_compute.Goals as goal

pub returns-clause-composition : goal.returns-clause-composition
returns-clause-composition c = record { cycle_then_swap = refl; swap_then_cycle = refl; inverse = refl; identity = refl }

pub returns-clause-refusals : goal.returns-clause-refusals
returns-clause-refusals c = refused

pub returns-clause-ranks : goal.returns-clause-ranks
returns-clause-ranks c = record { of_1 = refl; of_12 = refl; of_21 = refl; of_123 = refl; of_132 = refl; of_213 = refl; of_231 = refl; of_312 = refl; of_321 = refl; of_1234 = refl; of_1243 = refl; of_1324 = refl; of_1342 = refl; of_1423 = refl; of_1432 = refl; of_2134 = refl; of_2143 = refl; of_2314 = refl; of_2341 = refl; of_2413 = refl; of_2431 = refl; of_3124 = refl; of_3142 = refl; of_3214 = refl; of_3241 = refl; of_3412 = refl; of_3421 = refl; of_4123 = refl; of_4132 = refl; of_4213 = refl; of_4231 = refl; of_4312 = refl; of_4321 = refl; of_87654321 = refl; of_31287645 = refl }

pub returns-clause-counts : goal.returns-clause-counts
returns-clause-counts c = swap_rank

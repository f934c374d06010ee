use Rattle.std.proofs.Common.{refl, arith}
use Rattle.fr_layout.proofs.tests.packs_are_the_numbers_of_the_layout.Goals as goal

pub of_pack-requires : goal.of_pack-requires
of_pack-requires g c = record { pack = (record { start = 2; size = 2 }, 2, refl, (omega arith, omega arith), omega arith, omega arith) }

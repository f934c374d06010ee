use Rattle.fr_growth.proofs.BitLaws.{has_bit-zeros}
use Rattle.fr_growth.proofs.layers.Layer.clear.Goals as goal

pub returns-clause-set : goal.returns-clause-set
returns-clause-set c = λ u l. has_bit-zeros u

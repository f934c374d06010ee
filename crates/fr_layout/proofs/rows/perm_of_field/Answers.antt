use Rattle.std.proofs.Common.{arith}
use Rattle.fr_alphabet.proofs.RankLaws.{factorial-le}
use Rattle.fr_layout.proofs.rows.perm_of_field.Goals as goal

pub overflow_cast-value : goal.overflow_cast-value
overflow_cast-value c = let h = factorial-le c.args.a (omega arith) in omega arith

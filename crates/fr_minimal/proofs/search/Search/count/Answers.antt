use Rattle.std.proofs.Common.{arith}
use Rattle.fr_minimal.proofs.GroupLaws.{joins-lt}
use Rattle.fr_minimal.proofs.search.Search.count.Goals as goal

pub overflow_cast-result : goal.overflow_cast-result
overflow_cast-result c = omega (arith, c.len.ensures, c.args.self.now.counted, joins-lt c.args.self.now.groups.parents.items c.args.self.now.groups.sorted c.requires, c.args.self.now.groups.few)

pub returns-clause-fewer : goal.returns-clause-fewer
returns-clause-fewer c = omega (arith, c.len.ensures, c.args.self.now.counted, joins-lt c.args.self.now.groups.parents.items c.args.self.now.groups.sorted c.requires)

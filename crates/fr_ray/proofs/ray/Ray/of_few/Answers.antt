use Rattle.std.proofs.Common.{ap, Err}
use Rattle.fr_ray.proofs.FormLaws.{few_are_not_long}
use Rattle.fr_ray.proofs.ray.Ray.of_few.Goals as goal

pub unreachable-requires : goal.unreachable-requires
unreachable-requires c = few_are_not_long 8 _ c.args.start c.requires.inside c.requires.most (c.in-Err-RayPassed.ensures.passed (ap Err c.in-Err-RayPassed.field-0-is) 8 c.requires.valid)

use Rattle.std.proofs.Common.{arith}
use Rattle.fr_expr.proofs.FitLaws.{named-fits}
use Rattle.fr_expr.proofs.SizeLaws.{atom_size-Named}
use Rattle.fr_expr.proofs.tests.a_name_that_is_not_bound_is_refused.Goals as goal

pub eval-value-requires-clause-fits : goal.eval-value-requires-clause-fits
eval-value-requires-clause-fits g c = c.in_ok-e.ensures.fits _ (named-fits _ c.in_ok-name.name)

pub eval-value-requires-clause-room : goal.eval-value-requires-clause-room
eval-value-requires-clause-room g c = omega (arith, c.in_ok-e.ensures.size, atom_size-Named c.in_ok-name.name)

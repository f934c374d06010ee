use Rattle.std.proofs.Common.{arith}
use Rattle.fr_expr.proofs.FitLaws.{one-fits}
use Rattle.fr_expr.proofs.SizeLaws.{atom_size-One}
use Rattle.fr_expr.proofs.tests.a_power_of_the_identity_is_the_identity.Goals as goal

pub eval-requires-clause-fits : goal.eval-requires-clause-fits
eval-requires-clause-fits g c = c.in_ok-e.ensures.fits _ (one-fits _)

pub eval-requires-clause-room : goal.eval-requires-clause-room
eval-requires-clause-room g c = omega (arith, c.in_ok-e.ensures.size, atom_size-One)

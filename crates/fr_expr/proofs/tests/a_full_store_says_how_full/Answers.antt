use Rattle.std.proofs.Common.{arith}
use Rattle.fr_expr.proofs.FitLaws.{one-fits}
use Rattle.fr_expr.proofs.SizeLaws.{atom_size-One}
use Rattle.fr_expr.proofs.tests.a_full_store_says_how_full.Goals as goal

pub eval-value-requires-clause-fits : goal.eval-value-requires-clause-fits
eval-value-requires-clause-fits g c = c.in_ok-e.ensures.fits _ (one-fits _)

pub eval-value-requires-clause-room : goal.eval-value-requires-clause-room
eval-value-requires-clause-room g c = omega (arith, c.in_ok-e.ensures.size, atom_size-One)

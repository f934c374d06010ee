use Rattle.fr_expr.proofs.power.+power.Given as goal

-- proposed from what the function passes where it calls itself
abbrev pub decreases-power : goal.decreases-power
decreases-power g l = l.k

-- How lines end.
use Rattle.std.specs.Prelude.{Bool, true, false}
use Rattle.fr_eval.specs.declared.ends.LineEnd.{LineEnd}
use Rattle.fr_eval.specs.declared.ends.LineEnd.TheVariants.{Fine, Refused}

-- the line has a fault
abbrev pub is_refused : LineEnd → Bool
is_refused Fine = false
is_refused (Refused fault) = true

use Rattle.std.proofs.Common.{◌≡◌, ◌≤◌, min, drop}
use Rattle.fr_syntax.specs.Values.{digits_value_from}
use Rattle.fr_syntax.proofs.numbers.exponent.Given as goal

abbrev pub invariant-loop-digit : goal.invariant-loop-digit
invariant-loop-digit l = record {
  small : l.value ≤ 1000001;
  left : min (digits_value_from l.value (drop l.digit-index l.digits)) 1000001 ≡ min (digits_value_from 0 l.digits) 1000001;
}

use Rattle.std.proofs.Common.{◌≡◌, true, take}
use Rattle.std.specs.Str.{all_ascii_digits}
use Rattle.fr_canon.proofs.SplitLaws.{read_on}
use Rattle.fr_canon.proofs.lines.number_of.Given as goal

abbrev pub invariant-loop-digit : goal.invariant-loop-digit
invariant-loop-digit l = record {
  digits : all_ascii_digits (take l.digit-index l.digits) ≡ true;
  number : l.number ≡ read_on 0 (take l.digit-index l.digits);
}

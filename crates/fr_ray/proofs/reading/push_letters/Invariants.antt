use Rattle.std.proofs.Common.{◌≡◌, ◌+◌, ◌≤◌, ◌++◌, length, take, drop, map}
use Rattle.std.specs.Prelude.{vec_len, vec_capacity}
use Rattle.fr_alphabet.specs.Reading.{bad_place, letter_of_digit}
use Rattle.fr_ray.proofs.reading.push_letters.Given as goal

abbrev pub invariant-loop-i : goal.invariant-loop-i
invariant-loop-i l = record {
  read : l.letters.items ≡ l.fn.letters.items ++ map letter_of_digit (take l.i l.digits);
  room : vec_len l.letters + length l.digits ≤ vec_capacity l.letters + l.i;
  rest : bad_place l.d (l.place + l.i) (drop l.i l.digits) ≡ bad_place l.d l.place l.digits;
}

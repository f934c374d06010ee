use Rattle.std.proofs.Common.{◌≡◌, ◌+◌, ◌≤◌, ◌++◌, length, take, map}
use Rattle.std.specs.Prelude.{vec_len, vec_capacity}
use Rattle.fr_alphabet.specs.Writing.{letter_digit}
use Rattle.fr_ray.proofs.printing.push_digits.Given as goal

abbrev pub invariant-loop-x : goal.invariant-loop-x
invariant-loop-x l = record {
  text : l.out.items ≡ l.fn.out.items ++ map letter_digit (take l.x-index l.letters);
  room : vec_len l.out + length l.letters ≤ vec_capacity l.out + l.x-index;
}

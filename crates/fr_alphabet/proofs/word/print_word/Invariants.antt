use Rattle.std.proofs.Common.{◌≡◌, ◌++◌, map, take, drop}
use Rattle.fr_alphabet.specs.Writing.{letter_digit}
use Rattle.fr_alphabet.proofs.word.print_word.Given as goal

abbrev pub invariant-loop-byte : goal.invariant-loop-byte
invariant-loop-byte l = l.byte-items ≡ map letter_digit (take l.byte-index l.initial.byte-items) ++ drop l.byte-index l.initial.byte-items

use Rattle.std.proofs.Common.{◌≡◌, suc, ◌≤◌, take, drop, map, length}
use Rattle.std.specs.Prelude.{vec_capacity}
use Rattle.fr_alphabet.specs.Reading.{bad_place, letter_of_digit}
use Rattle.fr_alphabet.specs.Writing.{letter_digit}
use Rattle.fr_model.specs.Words.{IsWord}
use Rattle.fr_alphabet.proofs.word.Word.read.Given as goal

abbrev pub invariant-loop-i : goal.invariant-loop-i
invariant-loop-i l = record {
  read : l.letters.items ≡ map letter_of_digit (take l.i l.text);
  valid : IsWord l.d l.letters.items;
  text : map letter_digit l.letters.items ≡ take l.i l.text;
  room : length l.text ≤ vec_capacity l.letters;
  rest : bad_place l.d (suc l.i) (drop l.i l.text) ≡ bad_place l.d 1 l.text;
}

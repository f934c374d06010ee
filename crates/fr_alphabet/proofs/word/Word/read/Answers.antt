use Rattle.std.proofs.Common.{arith, ◌≡◌, ◌∙◌, ap, sym, ◌++◌, ◌∷◌, [], get_or, true}
use Rattle.std.proofs.lemmas.List.{map_more}
use Rattle.fr_alphabet.specs.Reading.{letter_of_digit, is_letter_digit}
use Rattle.fr_alphabet.proofs.Images.{IsWord-push}
use Rattle.fr_alphabet.proofs.Readings.{is_letter_digit-from, bad_place_more, IsBoundedWord-from}
use Rattle.fr_alphabet.proofs.WordLaws.{text_more}
use Rattle.fr_alphabet.proofs.word.Word.read.Goals as goal

pub loop-i-preserved : goal.loop-i-preserved
loop-i-preserved c =
    let d = c.letters-d.result in
    let i = c.loop-i.i in
    let text = c.args.text.now in
    let digit = get_or text i 0 in
    let is_digit : is_letter_digit d digit ≡ true = is_letter_digit-from d digit (omega arith) (omega arith) in
    record {
      read = c.push_reserved.ensures.items ∙ ap (λ w. w ++ letter_of_digit digit ∷ []) c.loop-i.invariant.read ∙ sym (map_more letter_of_digit text i 0 c.loop-i-test.true);
      valid = rw c.push_reserved.ensures.items (IsWord-push d c.loop-i.letters.items (letter_of_digit digit) c.loop-i.invariant.valid (omega arith));
      text = text_more c.loop-i.letters.items c.push_reserved.new.self.items text i c.loop-i-test.true (omega arith) c.loop-i.invariant.text c.push_reserved.ensures.items;
      room = omega arith;
      rest = bad_place_more d text i _ c.loop-i-test.true is_digit c.loop-i.invariant.rest;
    }

pub invariant_of-result-2 : goal.invariant_of-result-2
invariant_of-result-2 c = IsBoundedWord-from c.letters-d.result c.loop-i.letters.items c.args.text.now c.loop-i.i c.letters-d.ensures.most c.loop-i.invariant.valid c.loop-i.invariant.read c.loop-i.auto.i-end (omega arith)

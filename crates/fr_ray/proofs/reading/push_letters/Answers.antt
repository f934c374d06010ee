use Rattle.std.proofs.Common.{arith, ◌≡◌, ◌+◌, ◌∙◌, ap, sym, get_or, inr, refl, Some}
use Rattle.fr_alphabet.specs.Reading.{bad_place}
use Rattle.fr_ray.proofs.ReadingLaws.{letter_digit_low, letter_digit_high, bad_place_here}
use Rattle.fr_ray.proofs.reading.push_letters.Goals as goal
use Rattle.fr_ray.proofs.reading.push_letters.Goals.{then-digit-lt49-via-then-digit-lt49, then-digit-lt49-via-else-digit-lt49+then-digit-d}

pub returns-then-digit-lt49-clause-err : goal.returns-then-digit-lt49-clause-err
returns-then-digit-lt49-clause-err c =
    let i = c.loop-i.i in
    let byte = get_or c.args.digits.now i 0 in
    let d = c.letters-d.result in
    let here = λ (e : bad_place d c.args.place c.args.digits.now ≡ Some (c.args.place + i)). ap (λ n. bad_place n c.args.place c.args.digits.now) (sym c.letters-d.ensures.value) ∙ e in
    elim c.then-digit-lt49.branch [
      | then-digit-lt49-via-then-digit-lt49 w ↦ inr (c.args.place + i, here (bad_place_here d c.args.place c.args.digits.now i _ c.loop-i-test.true (letter_digit_low d byte (omega arith)) c.loop-i.invariant.rest), refl)
      | then-digit-lt49-via-else-digit-lt49+then-digit-d w ↦ inr (c.args.place + i, here (bad_place_here d c.args.place c.args.digits.now i _ c.loop-i-test.true (letter_digit_high d byte (omega arith)) c.loop-i.invariant.rest), refl)
    ]

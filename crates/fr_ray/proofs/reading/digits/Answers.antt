use Rattle.std.proofs.Common.{arith, get_or}
use Rattle.fr_ray.proofs.ReadingLaws.{is_digit-low, is_digit-high, digits_stop, digits_all}
use Rattle.fr_ray.proofs.reading.digits.Goals as goal
use Rattle.fr_ray.proofs.reading.digits.Goals.{then-c-lt48-via-then-c-lt48, then-c-lt48-via-else-c-lt48+then-c-gt57}

pub returns-then-c-lt48 : goal.returns-then-c-lt48
returns-then-c-lt48 c =
    let byte = get_or c.args.text.now c.loop-i.i 0 in
    elim c.then-c-lt48.branch [
      | then-c-lt48-via-then-c-lt48 w ↦ digits_stop c.args.text.now c.loop-i.i c.loop-i-test.true c.loop-i.invariant (is_digit-low byte (omega arith))
      | then-c-lt48-via-else-c-lt48+then-c-gt57 w ↦ digits_stop c.args.text.now c.loop-i.i c.loop-i-test.true c.loop-i.invariant (is_digit-high byte (omega arith))
    ]

pub returns : goal.returns
returns c = digits_all c.args.text.now c.loop-i.i c.loop-i-test.false c.loop-i.invariant

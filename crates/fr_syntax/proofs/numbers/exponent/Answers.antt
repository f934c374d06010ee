use Rattle.std.proofs.Common.{arith, ◌∙◌, ◌≡◌, drop, min, []}
use Rattle.std.proofs.lemmas.List.{drop_all}
use Rattle.fr_syntax.specs.Values.{digits_value, capped_value}
use Rattle.fr_syntax.proofs.NumberLaws.{capped_digit}
use Rattle.fr_syntax.proofs.numbers.exponent.Goals as goal

pub loop-digit-preserved : goal.loop-digit-preserved
loop-digit-preserved c = record {
  small = omega arith;
  left = rw (c.min-value.ensures, c.saturating_sub.ensures)
      (capped_digit c.loop-digit.value c.loop-digit.digit-index c.args.digits.now c.loop-digit-test.true ∙ c.loop-digit.invariant.left);
}

pub returns : goal.returns
unfolding capped_value digits_value
returns c =
    let gone : drop c.loop-digit.digit-index c.args.digits.now ≡ [] = drop_all _ _ c.loop-digit-test.false in
    let kept : c.loop-digit.value ≡ min c.loop-digit.value 1000001 = omega arith in
    kept ∙ (rw gone at c.loop-digit.invariant.left)

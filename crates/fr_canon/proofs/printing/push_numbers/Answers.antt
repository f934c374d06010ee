use Rattle.std.proofs.Common.{arith, ap, refl, ◌∙◌}
use Rattle.fr_alphabet.proofs.CycleTexts.{Keeps, Keeps-more, Keeps-same, Keeps-trans}
use Rattle.fr_canon.proofs.PrintLaws.{numbers_first, numbers_more}
use Rattle.fr_canon.proofs.printing.push_numbers.Goals as goal
use Rattle.fr_canon.proofs.printing.push_numbers.Goals.{then-i-gt0+in_ok-push, else-i-gt0}

pub returns-in_err-push_decimal-clause-kept : goal.returns-in_err-push_decimal-clause-kept
returns-in_err-push_decimal-clause-kept c =
    let before : Keeps c.args.out.now.items c.if-i-gt0.out.items = elim c.if-i-gt0.branch [
      | then-i-gt0+in_ok-push w ↦ Keeps-same _ _ _ (Keeps-more _ _ _ _ c.loop-i.invariant.kept w.in_ok-push.ensures.items) (ap (λ o. o.items) w.out-is)
      | else-i-gt0 w ↦ Keeps-same _ _ _ c.loop-i.invariant.kept (ap (λ o. o.items) w.out-is)
    ] in
    (Keeps-trans _ _ _ before (record { kept = c.push_decimal.ensures.kept })).kept

pub loop-i-preserved : goal.loop-i-preserved
loop-i-preserved c = elim c.if-i-gt0.branch [
  | then-i-gt0+in_ok-push w ↦ record {
    text = numbers_more c.args.numbers.now c.args.out.now.items c.loop-i.out.items c.if-i-gt0.out.items c.push_decimal.new.out.items c.loop-i.i _ w.if-i-gt0.true c.loop-i-test.true refl c.loop-i.invariant.text (ap (λ o. o.items) w.out-is ∙ w.in_ok-push.ensures.items) c.in_ok-push_decimal.ensures.ok;
    kept = Keeps-more _ _ _ _ (Keeps-same _ _ _ (Keeps-more _ _ _ _ c.loop-i.invariant.kept w.in_ok-push.ensures.items) (ap (λ o. o.items) w.out-is)) c.in_ok-push_decimal.ensures.ok;
  }
  | else-i-gt0 w ↦ record {
    text = numbers_first c.args.numbers.now c.args.out.now.items c.if-i-gt0.out.items c.push_decimal.new.out.items c.loop-i.i _ (omega (arith, w.if-i-gt0.false)) c.loop-i-test.true refl (ap (λ o. o.items) w.out-is ∙ c.loop-i.invariant.text) c.in_ok-push_decimal.ensures.ok;
    kept = Keeps-more _ _ _ _ (Keeps-same _ _ _ c.loop-i.invariant.kept (ap (λ o. o.items) w.out-is)) c.in_ok-push_decimal.ensures.ok;
  }
]

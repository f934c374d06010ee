use Rattle.std.proofs.Common.{ℕ, List, refl, arith, sym, subst}
use Rattle.std.proofs.lemmas.List.{take_rest}
use Rattle.fr_ray.specs.Forms.{IsPrimitive}
use Rattle.fr_ray.proofs.FormLaws.{long_from_period, long_from_form}
use Rattle.fr_ray.proofs.form.Form.new.Goals as goal

pub returns-in_err-period-clause-passed : goal.returns-in_err-period-clause-passed
returns-in_err-period-clause-passed c = λ _ d w.
    long_from_period d c.args.letters.now c.args.start c.requires w
    (λ p h. let P : List ℕ → Type 0 = λ v. IsPrimitive v p in c.in_err-period.ensures.passed refl p (subst P (sym (take_rest c.args.letters.now c.args.start)) h))

pub returns-then-before-period-gt-LETTER_LIMIT-clause-passed :
    goal.returns-then-before-period-gt-LETTER_LIMIT-clause-passed
returns-then-before-period-gt-LETTER_LIMIT-clause-passed c = λ _ d w.
    let P : List ℕ → Type 0 = λ v. IsPrimitive v c.in_ok-period.period in
    long_from_form d c.args.letters.now c.args.start c.in_ok-period.period c.least_beginning-before.result c.requires w
    (subst P (take_rest c.args.letters.now c.args.start) c.in_ok-period.ensures.found) c.least_beginning-before.ensures (omega (arith, c.if-before-period-gt-LETTER_LIMIT.true))

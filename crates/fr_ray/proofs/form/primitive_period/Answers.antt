use Rattle.std.proofs.Common.{◌≡◌, ◌≤◌, ◌/◌, inl, inr, length, sym, ◌∙◌, subst, arith}
use Rattle.std.proofs.lemmas.Bool.{cases_lt, false≢true}
use Rattle.fr_ray.specs.Forms.{IsPeriod}
use Rattle.fr_ray.proofs.DivisorLaws.{better_period, better_least, past_root}
use Rattle.fr_ray.proofs.form.primitive_period.Goals as goal

pub loop-p-preserved : goal.loop-p-preserved
loop-p-preserved c =
    let v = c.args.letters.now in
    let p = c.loop-p.p in
    let inv = c.loop-p.invariant in
    record {
      some = omega arith;
      none = λ q less h. elim (cases_lt q p) [
        | inl k ↦ inv.none q k h
        | inr k ↦
            let is : q ≡ p = omega (arith, less, k) in
            false≢true (sym c.if-is_period.false ∙ c.is_period.ensures.1 (subst (IsPeriod v) is h))
      ];
      best = better_period v (length v / p) c.loop-p.best c.better_period-best.result inv.best c.better_period-best.ensures.only;
      least = better_least v p c.loop-p.best c.better_period-best.result inv.some inv.least c.better_period-best.ensures.better c.better_period-best.ensures.only;
    }

pub returns-then-best-gt-LETTER_LIMIT-clause-passed : goal.returns-then-best-gt-LETTER_LIMIT-clause-passed
returns-then-best-gt-LETTER_LIMIT-clause-passed c = λ _ p primitive.
    let v = c.args.letters.now in
    let inv = c.loop-p.invariant in
    elim (cases_lt 4096 p) [
      | inl k ↦ k
      | inr few ↦
          let below : c.loop-p.best ≤ p = inv.least p primitive.period (past_root v c.loop-p.p p inv.some c.loop-p-test.false inv.none primitive.period) few in
          absurd (omega (arith, below, few, c.if-best-gt-LETTER_LIMIT.true))
    ]

pub returns-else-best-gt-LETTER_LIMIT-clause-found : goal.returns-else-best-gt-LETTER_LIMIT-clause-found
returns-else-best-gt-LETTER_LIMIT-clause-found c =
    let v = c.args.letters.now in
    let inv = c.loop-p.invariant in
    record {
      period = inv.best;
      least = λ q less h.
          let few : q ≤ 4096 = omega (arith, less, c.if-best-gt-LETTER_LIMIT.false) in
          let below : c.loop-p.best ≤ q = inv.least q h (past_root v c.loop-p.p q inv.some c.loop-p-test.false inv.none h) few in
          absurd (omega (arith, below, less));
    }

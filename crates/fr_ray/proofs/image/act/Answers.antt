use Rattle.std.proofs.lemmas.Result.{IfOk-weaker}
use Rattle.fr_model.specs.Words.{IsWord}
use Rattle.fr_model.specs.Rays.{IsCanonicalRay}
use Rattle.std.proofs.Common.{ℕ}
use Rattle.fr_ray.proofs.RoundLaws.{IsLongImage-from, no_long_image}
use Rattle.fr_ray.proofs.image.act.Goals as goal

pub returns-clause-canonical : goal.returns-clause-canonical
returns-clause-canonical c =
    let d = c.args.m.now.alphabet in
    IfOk-weaker c.of_letters.result
    (λ s. (d : ℕ) → IsWord d c.deref.result.now → IsCanonicalRay d s.before s.period)
    (λ s. IsCanonicalRay d s.before s.period)
    (λ s h. h d (rw c.deref.ensures.value c.in_ok-rounds.ensures.valid)) c.of_letters.ensures.canonical

pub returns-clause-only : goal.returns-clause-only
returns-clause-only c =
    let d = c.args.m.now.alphabet in
    no_long_image d _ c.args.r.now _ _ c.of_letters.result c.in_ok-rounds.ensures.image (rw c.deref.ensures.value at c.of_letters.ensures.same)
    (IfOk-weaker c.of_letters.result
    (λ s. (d : ℕ) → IsWord d c.deref.result.now → IsCanonicalRay d s.before s.period)
    (λ s. IsCanonicalRay d s.before s.period)
    (λ s h. h d (rw c.deref.ensures.value c.in_ok-rounds.ensures.valid)) c.of_letters.ensures.canonical)
    c.of_letters.ensures.few

pub returns-clause-passed : goal.returns-clause-passed
returns-clause-passed c = λ e.
    let d = c.args.m.now.alphabet in
    let h = c.of_letters.ensures.passed e d (rw c.deref.ensures.value c.in_ok-rounds.ensures.valid) in
    IsLongImage-from d _ c.args.r.now _ _ c.in_ok-rounds.ensures.image (rw c.deref.ensures.value at h)

use Rattle.std.proofs.Common.{ℕ, List, ◌≡◌, ◌++◌, ◌∙◌, ap}
use Rattle.std.proofs.lemmas.Result.{IfOk-weaker}
use Rattle.fr_model.specs.Words.{IsWord}
use Rattle.fr_model.specs.Rays.{IsCanonicalRay}
use Rattle.fr_model.proofs.TermLaws.{IsWord-append}
use Rattle.fr_ray.proofs.ray.Ray.of_words.Goals as goal

-- the letters of both words
joined_word : (d : ℕ) (shown before period : List ℕ) → shown ≡ before ++ period → IsWord d before → IsWord d period → IsWord d shown
joined_word d shown before period e g h = rw e (IsWord-append d before period g h)

pub of_few-requires-clause-valid : goal.of_few-requires-clause-valid
of_few-requires-clause-valid c =
    joined_word 8 _ c.args.before.now c.args.period.now (c.deref.ensures.value ∙ c.in_ok-extend_from_slice-2.ensures.items ∙ ap (λ w. w ++ c.args.period.now) (c.in_ok-extend_from_slice.ensures.items ∙ ap (λ w. w ++ c.args.before.now) c.in_ok-letters.ensures.items)) c.requires.before_valid c.requires.period_valid

pub returns-clause-canonical : goal.returns-clause-canonical
returns-clause-canonical c =
    let joined = c.deref.ensures.value ∙ c.in_ok-extend_from_slice-2.ensures.items ∙ ap (λ w. w ++ c.args.period.now) (c.in_ok-extend_from_slice.ensures.items ∙ ap (λ w. w ++ c.args.before.now) c.in_ok-letters.ensures.items) in
    IfOk-weaker c.of_few.result
    (λ r. (d : ℕ) → IsWord d c.deref.result.now → IsCanonicalRay d r.before r.period)
    (λ r. (d : ℕ) → IsWord d c.args.before.now → IsWord d c.args.period.now → IsCanonicalRay d r.before r.period)
    (λ r h d g k. h d (joined_word d c.deref.result.now c.args.before.now c.args.period.now joined g k)) c.of_few.ensures.canonical

use Rattle.std.proofs.Common.{sym, ◌∙◌}
use Rattle.std.proofs.lemmas.Slice.Eq.{slice_eq-Decides}
use Rattle.std.proofs.lemmas.Bool.Decides.{Decides-eqb, Decides-like}
use Rattle.fr_ray.proofs.FormLaws.{same_by_periods, other_by_befores}
use Rattle.fr_ray.proofs.ray.Ray.equal.Goals as goal

pub returns-then-eq : goal.returns-then-eq
returns-then-eq c =
    let befores = slice_eq-Decides Decides-eqb _ _ _ c.eq.ensures in
    let periods = slice_eq-Decides Decides-eqb _ _ _ c.eq-then-eq.ensures in
    let left = c.period.ensures.value in
    let right = c.period-then-eq.ensures.value in
    same_by_periods _ _ _ _ c.eq-then-eq.result c.before-2.ensures.canonical c.before-3.ensures.canonical
    (sym c.before-2.ensures.value ∙ befores.0 c.if-eq.true ∙ c.before-3.ensures.value)
    (Decides-like c.eq-then-eq.result (λ e. sym left ∙ e ∙ right) (λ e. left ∙ e ∙ sym right) periods)

pub returns-else-eq : goal.returns-else-eq
returns-else-eq c =
    let befores = slice_eq-Decides Decides-eqb _ _ _ c.eq.ensures in
    let left = c.before-2.ensures.value in
    let right = c.before-3.ensures.value in
    other_by_befores _ _ _ _ c.eq.result c.before-2.ensures.canonical c.before-3.ensures.canonical c.if-eq.false
    (Decides-like c.eq.result (λ e. sym left ∙ e ∙ right) (λ e. left ∙ e ∙ sym right) befores)

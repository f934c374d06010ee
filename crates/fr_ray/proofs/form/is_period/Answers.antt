use Rattle.std.proofs.lemmas.Slice.Eq.{slice_eq-Decides}
use Rattle.std.proofs.lemmas.Bool.Decides.{Decides-eqb}
use Rattle.fr_ray.proofs.FormLaws.{IsPeriod-decides}
use Rattle.fr_ray.proofs.form.is_period.Goals as goal

pub returns-then-letters-p-eq0 : goal.returns-then-letters-p-eq0
returns-then-letters-p-eq0 c = IsPeriod-decides c.args.letters.now c.args.p c.eq.result c.requires.some c.requires.within c.if-letters-p-eq0.true (slice_eq-Decides Decides-eqb _ _ _ c.eq.ensures)

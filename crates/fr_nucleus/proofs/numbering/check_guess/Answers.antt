use Rattle.std.proofs.Common.{arith, ◌≡◌, ◌⊎◌, ap, sym, subst, length}
use Rattle.std.proofs.lemmas.Result.{IfErr-weaker}
use Rattle.fr_machine.specs.Walks.{WalkView}
use Rattle.fr_product.specs.Limits.{AreLimitRows}
use Rattle.fr_nucleus.specs.declared.fault.NucleusFault.{NucleusFault}
use Rattle.fr_nucleus.specs.declared.fault.NucleusFault.TheVariants.{NoMemory, Passes}
use Rattle.fr_nucleus.specs.Numberings.{AreKnown, IsFull, IsOverfull}
use Rattle.fr_nucleus.proofs.ListLaws.{either-weaker}
use Rattle.fr_nucleus.proofs.NumberingLaws.{IsOverfull-from}
use Rattle.fr_nucleus.proofs.numbering.check_guess.Goals as goal

pub number_limits-requires-clause-marks : goal.number_limits-requires-clause-marks
number_limits-requires-clause-marks c = omega (arith, ap length c.marks.ensures, c.requires.reached.limits.count, c.guess-guess.ensures.count)

pub returns : goal.returns
returns c =
    let d = c.args.products.now.alphabet in
    let rows = c.args.products.now.rows in
    let most = c.args.most in
    let of = c.guess-guess.result.now in
    let marks = c.marks.result.now in
    let limits : AreLimitRows d rows marks = subst (AreLimitRows d rows) (sym c.marks.ensures) c.requires.reached.limits in
    let old = c.in_ok-walk.walk.keys in
    let none : length old ≡ 0 = ap (λ (w : WalkView). length w.keys) c.in_ok-walk.ensures in
    let known : AreKnown of old 0 1 0 = record { count = none; known = λ i l. absurd (omega arith) } in
    let F : Type 0 = IsFull of marks old most in
    let O : Type 0 = IsOverfull d rows 0 1 most in
    let P : NucleusFault → Type 0 = λ e. (e ≡ NoMemory) ⊎ ((e ≡ Passes most) × F) in
    let Q : NucleusFault → Type 0 = λ e. (e ≡ NoMemory) ⊎ ((e ≡ Passes most) × O) in
    IfErr-weaker c.number_limits.result P Q
    (either-weaker NoMemory (Passes most) F O (λ f. IsOverfull-from d rows 0 1 most of old marks c.guess-guess.ensures.count c.guess-guess.ensures.alike limits (λ i l. absurd (omega arith)) known f))
    c.number_limits.ensures.err

use Rattle.std.proofs.Common.{ℕ, arith, ap, sym, subst, ◌≡◌, ◌∙◌, ◌*◌, ◌⊎◌, List, length}
use Rattle.std.proofs.lemmas.Result.{err_from_is_err_and}
use Rattle.fr_product.specs.Limits.{AreLimitRows}
use Rattle.fr_minimal.proofs.ChoiceLaws.{classes_below}
use Rattle.fr_classes.specs.Classes.{AreClasses}
use Rattle.fr_machine.specs.Walks.{IsKeys}
use Rattle.fr_nucleus.specs.declared.fault.NucleusFault.{NucleusFault}
use Rattle.fr_nucleus.specs.declared.fault.NucleusFault.TheVariants.{NoMemory, Passes}
use Rattle.fr_nucleus.specs.Numberings.{IsFull, IsNumberingOf, IsOverfull}
use Rattle.fr_nucleus.proofs.ListLaws.{IfErr-given, either-weaker}
use Rattle.fr_nucleus.proofs.NumberingLaws.{IsNumberingOf-from, IsOverfull-from}
use Rattle.fr_nucleus.proofs.numbering.number_classes.Goals as goal

pub number_members-requires-clause-few : goal.number_members-requires-clause-few
number_members-requires-clause-few c = omega (arith, ap length c.of-of.ensures, c.requires.classes.count, c.rows-products.ensures.valid.most)

pub number_members-requires-clause-inside : goal.number_members-requires-clause-inside
number_members-requires-clause-inside c = λ i l. omega (arith, c.requires.inside i l, ap length c.of-of.ensures, c.requires.classes.count)

pub number_members-requires-clause-below : goal.number_members-requires-clause-below
number_members-requires-clause-below c = classes_below c.args.products.now.rows c.of-of.result.now (subst (AreClasses c.args.products.now.rows) (sym c.of-of.ensures) c.requires.classes)

pub number_members-requires-clause-apart : goal.number_members-requires-clause-apart
number_members-requires-clause-apart c = λ i j a b e.
    let w = c.args.width in
    let classes : AreClasses c.args.products.now.rows c.of-of.result.now = subst (AreClasses c.args.products.now.rows) (sym c.of-of.ensures) c.requires.classes in
    c.requires.apart i j a b ((classes.alike (i * w) (j * w) (c.requires.inside i (omega arith)) (c.requires.inside j b)).0 e)

pub number_limits-requires-clause-below : goal.number_limits-requires-clause-below
number_limits-requires-clause-below c = classes_below c.args.products.now.rows c.of-of.result.now (subst (AreClasses c.args.products.now.rows) (sym c.of-of.ensures) c.requires.classes)

pub number_limits-requires-clause-marks : goal.number_limits-requires-clause-marks
number_limits-requires-clause-marks c = omega (arith, ap length c.marks-limits.ensures, c.requires.survey.reached.limits.count, ap length c.of-of.ensures, c.requires.classes.count)

pub returns-in_err-number_limits-clause-err : goal.returns-in_err-number_limits-clause-err
returns-in_err-number_limits-clause-err c =
    let d = c.args.products.now.alphabet in
    let rows = c.args.products.now.rows in
    let of = c.of-of.result.now in
    let marks = c.marks-limits.result.now in
    let classes : AreClasses rows of = subst (AreClasses rows) (sym c.of-of.ensures) c.requires.classes in
    let limits : AreLimitRows d rows marks = subst (AreLimitRows d rows) (sym c.marks-limits.ensures) c.requires.survey.reached.limits in
    let old = c.in_ok-walk.walk.keys in
    let p = err_from_is_err_and c.from_residual-in_err-number_limits.result c.from_residual-in_err-number_limits.ensures.1 in
    let P : NucleusFault → Type 0 = λ e. (e ≡ NoMemory) ⊎ ((e ≡ Passes c.args.most) × IsOverfull d rows c.args.members c.args.width c.args.most) in
    IfErr-given c.from_residual-in_err-number_limits.result p.0 c.in_err-number_limits.field-0.0 P p.1 p.2
    (either-weaker NoMemory (Passes c.args.most) (IsFull of marks old c.args.most) (IsOverfull d rows c.args.members c.args.width c.args.most)
    (λ full. IsOverfull-from d rows c.args.members c.args.width c.args.most of old marks classes.count (λ s t a b. (classes.alike s t a b).1) limits c.requires.inside c.in_ok-walk.ensures.known full)
    c.in_err-number_limits.field-0.0 c.in_err-number_limits.ensures.err)

pub returns-clause-numbers : goal.returns-clause-numbers
returns-clause-numbers c =
    let d = c.args.products.now.alphabet in
    let rows = c.args.products.now.rows in
    let of = c.of-of.result.now in
    let marks = c.marks-limits.result.now in
    let classes : AreClasses rows of = subst (AreClasses rows) (sym c.of-of.ensures) c.requires.classes in
    let limits : AreLimitRows d rows marks = subst (AreLimitRows d rows) (sym c.marks-limits.ensures) c.requires.survey.reached.limits in
    let old = c.in_ok-walk.walk.keys in
    let keys = c.number_limits.new.walk.keys in
    let bound : c.number_limits.new.walk.bound ≡ length of = c.in_ok-number_limits.ensures.bound ∙ c.in_ok-walk.ensures.bound in
    let keyed : IsKeys (length of) keys = subst (λ b. IsKeys b keys) bound c.keys-keys.ensures.valid in
    let P : List ℕ → Type 0 = λ xs. IsNumberingOf d rows c.args.members c.args.width c.args.most xs keys in
    subst P c.of-of.ensures (IsNumberingOf-from d rows c.args.members c.args.width c.args.most of old keys marks classes limits c.in_ok-walk.ensures.known c.in_ok-number_limits.ensures.numbers keyed)

pub returns-clause-bound : goal.returns-clause-bound
returns-clause-bound c = c.in_ok-number_limits.ensures.bound ∙ c.in_ok-walk.ensures.bound ∙ ap length c.of-of.ensures

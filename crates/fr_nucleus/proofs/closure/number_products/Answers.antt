use Rattle.std.proofs.Common.{arith, ap, sym, subst, ◌≡◌, ◌*◌, ◌⊎◌, length}
use Rattle.std.proofs.lemmas.Result.{IfErr-weaker, err_from_is_err_and}
use Rattle.fr_model.specs.Terms.{IsAlike}
use Rattle.fr_machine.specs.Rows.{IsMachine, row_term}
use Rattle.fr_nucleus.specs.declared.fault.NucleusFault.{NucleusFault}
use Rattle.fr_nucleus.specs.declared.fault.NucleusFault.TheVariants.{NoMemory, Passes}
use Rattle.fr_nucleus.specs.Numberings.{IsOverfull, HasMoreOf}
use Rattle.fr_nucleus.specs.Surveys.{IsSurvey}
use Rattle.fr_nucleus.proofs.ListLaws.{IfErr-given, either-weaker}
use Rattle.fr_nucleus.proofs.NumberingLaws.{IsOverfull-limits}
use Rattle.fr_nucleus.proofs.GrowthLaws.{pairs_apart, HasMoreOf-from}
use Rattle.fr_nucleus.proofs.closure.number_products.Goals as goal

pub extend-requires : goal.extend-requires
extend-requires c =
    let h = c.requires.survey in
    (h.0, subst (λ d. IsSurvey d h.0 c.args.survey.now) (sym c.requires.products_over) h.1, h.2)

pub number_classes-requires-clause-apart : goal.number_classes-requires-clause-apart
number_classes-requires-clause-apart c = λ i j a b e.
    let d = c.args.sections.now.alphabet in
    let qs = c.args.sections.now.rows in
    let ms = c.args.members.now.rows in
    let m : IsMachine d ms = subst (λ e. IsMachine e ms) c.requires.members_over c.rows.ensures.valid in
    let w : length c.rows-2.result.now ≡ length qs = ap length c.rows-2.ensures.value in
    let e' = subst (λ w. IsAlike (row_term c.args.products.now.rows (i * w)) (row_term c.args.products.now.rows (j * w))) w e in
    pairs_apart d qs ms c.args.products.now.rows c.rows-2.ensures.valid m c.requires.sections (omega (arith, c.requires.few, c.requires.most)) c.requires.members c.requires.table i j a (omega (arith, b, ap length c.rows.ensures.value)) e'

pub returns-in_err-check_guess-clause-err : goal.returns-in_err-check_guess-clause-err
returns-in_err-check_guess-clause-err c =
    let d = c.args.sections.now.alphabet in
    let qs = c.args.sections.now.rows in
    let ms = c.args.members.now.rows in
    let most = c.args.most in
    let p = c.args.products.now in
    let m : IsMachine d ms = subst (λ e. IsMachine e ms) c.requires.members_over c.rows.ensures.valid in
    let r = err_from_is_err_and c.from_residual-in_err-check_guess.result c.from_residual-in_err-check_guess.ensures.1 in
    let Q : NucleusFault → Type 0 = λ e. (e ≡ NoMemory) ⊎ ((e ≡ Passes most) × HasMoreOf d qs most) in
    IfErr-given c.from_residual-in_err-check_guess.result r.0 c.in_err-check_guess.field-0.0 Q r.1 r.2
    (either-weaker NoMemory (Passes most) (IsOverfull p.alphabet p.rows 0 1 most) (HasMoreOf d qs most)
    (λ o. HasMoreOf-from d qs ms p.rows c.rows-2.ensures.valid m c.requires.sections (omega (arith, c.requires.few, c.requires.most)) c.requires.members c.requires.table most
    (subst (λ e. IsOverfull e p.rows (length ms) (length qs) most) c.requires.products_over (IsOverfull-limits p.alphabet p.rows (length ms) (length qs) most o)))
    c.in_err-check_guess.field-0.0 c.in_err-check_guess.ensures)

pub returns-clause-err : goal.returns-clause-err
returns-clause-err c =
    let d = c.args.sections.now.alphabet in
    let qs = c.args.sections.now.rows in
    let ms = c.args.members.now.rows in
    let most = c.args.most in
    let p = c.args.products.now in
    let m : IsMachine d ms = subst (λ e. IsMachine e ms) c.requires.members_over c.rows.ensures.valid in
    let O : Type 0 = IsOverfull p.alphabet p.rows (length c.rows.result.now) (length c.rows-2.result.now) most in
    let P : NucleusFault → Type 0 = λ e. (e ≡ NoMemory) ⊎ ((e ≡ Passes most) × O) in
    let Q : NucleusFault → Type 0 = λ e. (e ≡ NoMemory) ⊎ ((e ≡ Passes most) × HasMoreOf d qs most) in
    IfErr-weaker c.number_classes.result P Q
    (either-weaker NoMemory (Passes most) O (HasMoreOf d qs most)
    (λ o. HasMoreOf-from d qs ms p.rows c.rows-2.ensures.valid m c.requires.sections (omega (arith, c.requires.few, c.requires.most)) c.requires.members c.requires.table most
    (subst (λ e. IsOverfull e p.rows (length ms) (length qs) most) c.requires.products_over
    (subst (λ rs. IsOverfull p.alphabet p.rows (length ms) (length rs) most) c.rows-2.ensures.value
    (subst (λ rs. IsOverfull p.alphabet p.rows (length rs) (length c.rows-2.result.now) most) c.rows.ensures.value o))))) c.number_classes.ensures.err

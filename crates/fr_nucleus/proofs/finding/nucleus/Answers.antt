use Rattle.std.proofs.Common.{arith, sym, subst, ◌≡◌, ◌∙◌, ◌⊎◌}
use Rattle.std.proofs.lemmas.Result.{err_from_is_err_and}
use Rattle.fr_machine.specs.Rows.{states_of}
use Rattle.fr_nucleus.specs.declared.fault.NucleusFault.TheVariants.{NoMemory, Passes}
use Rattle.fr_nucleus.specs.Elements.{alphabet_of}
use Rattle.fr_nucleus.specs.Faults.{IsNucleusFault}
use Rattle.fr_nucleus.specs.Depths.{IsWayOut}
use Rattle.fr_nucleus.specs.Rows.{IsListing}
use Rattle.fr_nucleus.specs.Numberings.{IsClosure, HasMoreOf}
use Rattle.fr_nucleus.proofs.ListLaws.{IfErr-given}
use Rattle.fr_nucleus.proofs.AnswerLaws.{nucleus_is, members_are, depth_is, few_sections, few_members, limits_unmarked, nucleus_fault, none_from_fault, passes_is}
use Rattle.fr_nucleus.proofs.finding.nucleus.Goals as goal

-- the refusal of the closure, over the alphabet of the generators
pub returns-in_err-members-clause-none : goal.returns-in_err-members-clause-none
returns-in_err-members-clause-none c given ms b =
    let gens = c.args.gens.now in
    let qs = c.in_ok-sections.sections.rows in
    let p = err_from_is_err_and c.from_residual-in_err-members.result c.from_residual-in_err-members.ensures.1 in
    let fault : (c.in_err-members.field-0.0 ≡ NoMemory) ⊎ ((c.in_err-members.field-0.0 ≡ Passes c.args.most) × HasMoreOf (alphabet_of gens) qs c.args.most) =
    subst (λ d. (c.in_err-members.field-0.0 ≡ NoMemory) ⊎ ((c.in_err-members.field-0.0 ≡ Passes c.args.most) × HasMoreOf d qs c.args.most)) c.in_ok-sections.ensures.alphabet c.in_err-members.ensures.err in
    none_from_fault gens qs c.in_ok-sections.ensures.sections c.args.most c.in_err-members.field-0.0 fault (passes_is c.from_residual-in_err-members.result p.0 c.in_err-members.field-0.0 (Passes c.args.most) p.1 p.2 given) ms b

pub returns-in_err-members-clause-err : goal.returns-in_err-members-clause-err
returns-in_err-members-clause-err c =
    let gens = c.args.gens.now in
    let qs = c.in_ok-sections.sections.rows in
    let p = err_from_is_err_and c.from_residual-in_err-members.result c.from_residual-in_err-members.ensures.1 in
    let fault : (c.in_err-members.field-0.0 ≡ NoMemory) ⊎ ((c.in_err-members.field-0.0 ≡ Passes c.args.most) × HasMoreOf (alphabet_of gens) qs c.args.most) =
    subst (λ d. (c.in_err-members.field-0.0 ≡ NoMemory) ⊎ ((c.in_err-members.field-0.0 ≡ Passes c.args.most) × HasMoreOf d qs c.args.most)) c.in_ok-sections.ensures.alphabet c.in_err-members.ensures.err in
    IfErr-given c.from_residual-in_err-members.result p.0 c.in_err-members.field-0.0 (IsNucleusFault gens c.args.most) p.1 p.2 (nucleus_fault gens qs c.in_ok-sections.ensures.sections c.args.most c.in_err-members.field-0.0 fault)

pub depth_of-requires-clause-limits : goal.depth_of-requires-clause-limits
depth_of-requires-clause-limits c = λ r l h.
    let x = c.in_ok-members.field-0 in
    let qs = c.in_ok-sections.sections.rows in
    let closure = subst (λ d. IsClosure d qs x.members.rows x.products.rows x.outside.items) (sym c.in_ok-members.ensures.alphabet.1) c.in_ok-members.ensures.closure in
    limits_unmarked x.products.alphabet qs x.members.rows x.products.rows x.outside.items closure r l h

pub returns-clause-members : goal.returns-clause-members
returns-clause-members c =
    let gens = c.args.gens.now in
    let x = c.in_ok-members.field-0 in
    let qs = c.in_ok-sections.sections.rows in
    let over = c.in_ok-sections.ensures.alphabet in
    let closure : IsClosure (alphabet_of gens) qs x.members.rows x.products.rows x.outside.items = subst (λ d. IsClosure d qs x.members.rows x.products.rows x.outside.items) over c.in_ok-members.ensures.closure in
    let views = c.in_ok-in_order.field-0.items in
    let listing : IsListing (alphabet_of gens) x.members.rows views = subst (λ d. IsListing d x.members.rows views) (c.in_ok-members.ensures.alphabet.0 ∙ over) c.in_ok-in_order.ensures in
    members_are gens qs c.in_ok-sections.ensures.sections x.members.rows x.products.rows x.outside.items views closure.sections closure.machine (omega (arith, c.in_ok-members.ensures.few, c.requires.most)) closure listing

pub returns-clause-nucleus : goal.returns-clause-nucleus
returns-clause-nucleus c =
    let gens = c.args.gens.now in
    let x = c.in_ok-members.field-0 in
    let qs = c.in_ok-sections.sections.rows in
    let over = c.in_ok-sections.ensures.alphabet in
    let closure : IsClosure (alphabet_of gens) qs x.members.rows x.products.rows x.outside.items = subst (λ d. IsClosure d qs x.members.rows x.products.rows x.outside.items) over c.in_ok-members.ensures.closure in
    let views = c.in_ok-in_order.field-0.items in
    let listing : IsListing (alphabet_of gens) x.members.rows views = subst (λ d. IsListing d x.members.rows views) (c.in_ok-members.ensures.alphabet.0 ∙ over) c.in_ok-in_order.ensures in
    nucleus_is gens qs c.in_ok-sections.ensures.sections x.members.rows x.products.rows x.outside.items views closure.sections closure.machine (omega (arith, c.in_ok-members.ensures.few, c.requires.most)) closure listing

pub returns-clause-depth : goal.returns-clause-depth
returns-clause-depth c =
    let gens = c.args.gens.now in
    let x = c.in_ok-members.field-0 in
    let qs = c.in_ok-sections.sections.rows in
    let over = c.in_ok-sections.ensures.alphabet in
    let closure : IsClosure (alphabet_of gens) qs x.members.rows x.products.rows x.outside.items = subst (λ d. IsClosure d qs x.members.rows x.products.rows x.outside.items) over c.in_ok-members.ensures.closure in
    let views = c.in_ok-in_order.field-0.items in
    let listing : IsListing (alphabet_of gens) x.members.rows views = subst (λ d. IsListing d x.members.rows views) (c.in_ok-members.ensures.alphabet.0 ∙ over) c.in_ok-in_order.ensures in
    let way : IsWayOut (alphabet_of gens) (states_of x.products.rows) x.outside.items c.in_ok-depth_of.field-0 = subst (λ d. IsWayOut d (states_of x.products.rows) x.outside.items c.in_ok-depth_of.field-0) (c.in_ok-members.ensures.alphabet.1 ∙ over) c.in_ok-depth_of.ensures in
    depth_is gens qs c.in_ok-sections.ensures.sections x.members.rows x.products.rows x.outside.items views closure.sections closure.machine (omega (arith, c.in_ok-members.ensures.few, c.requires.most)) closure listing c.in_ok-depth_of.field-0 way

pub returns-clause-sections : goal.returns-clause-sections
returns-clause-sections c = few_sections c.args.gens.now c.in_ok-sections.sections.rows c.in_ok-sections.ensures.sections

pub returns-clause-within : goal.returns-clause-within
returns-clause-within c =
    let gens = c.args.gens.now in
    let x = c.in_ok-members.field-0 in
    let qs = c.in_ok-sections.sections.rows in
    let over = c.in_ok-sections.ensures.alphabet in
    let closure : IsClosure (alphabet_of gens) qs x.members.rows x.products.rows x.outside.items = subst (λ d. IsClosure d qs x.members.rows x.products.rows x.outside.items) over c.in_ok-members.ensures.closure in
    let views = c.in_ok-in_order.field-0.items in
    let listing : IsListing (alphabet_of gens) x.members.rows views = subst (λ d. IsListing d x.members.rows views) (c.in_ok-members.ensures.alphabet.0 ∙ over) c.in_ok-in_order.ensures in
    few_members gens qs c.in_ok-sections.ensures.sections x.members.rows x.products.rows x.outside.items views closure.sections closure.machine (omega (arith, c.in_ok-members.ensures.few, c.requires.most)) closure listing c.args.most c.in_ok-members.ensures.few

use Rattle.std.proofs.Common.{ℕ, [], List, arith, ap, sym, subst, ◌∙◌, ◌<◌, ◌≤◌, length}
use Rattle.std.specs.List.{All}
use Rattle.fr_machine.specs.Rows.{IsMachine}
use Rattle.fr_machine.specs.Rows.{IsLonger}
use Rattle.fr_minimal.proofs.ChoiceLaws.{classes_below}
use Rattle.fr_nucleus.specs.Products.{AreProductRows}
use Rattle.fr_classes.specs.Classes.{AreClasses}
use Rattle.fr_machine.specs.Walks.{IsKeys}
use Rattle.fr_nucleus.specs.Numberings.{IsNumberingOf, AreOutside}
use Rattle.fr_nucleus.specs.Surveys.{IsSurvey, classes_of}
use Rattle.fr_nucleus.proofs.ProductLaws.{AreProductRows-grown}
use Rattle.fr_nucleus.proofs.GrowthLaws.{AreMembers-identity, used, closed, AreMembers-grown, IsClosure-from}
use Rattle.fr_nucleus.proofs.closure.close.Goals as goal

pub number_products-requires-clause-members : goal.number_products-requires-clause-members
number_products-requires-clause-members c = AreMembers-identity c.args.sections.now.alphabet c.args.sections.now.rows c.in_ok-members.members.rows (omega (arith, c.alphabet.ensures.valid.few)) c.requires.sections c.in_ok-members.ensures.size c.in_ok-members.ensures.alike

pub number_products-requires-clause-survey : goal.number_products-requires-clause-survey
number_products-requires-clause-survey c = ([], c.in_ok-survey.ensures c.args.sections.now.alphabet, subst (λ xs. IsLonger xs c.in_ok-products.products.rows) c.new.ensures.items c.in_ok-products.ensures.longer)

pub grown_members-requires-clause-used : goal.grown_members-requires-clause-used
grown_members-requires-clause-used c =
    let d = c.args.sections.now.alphabet in
    let l = c.loop-survey in
    let v = l.invariant in
    let m : IsMachine d l.members.rows = subst (λ e. IsMachine e l.members.rows) v.members_over c.rows.ensures.valid in
    let of = c.of.result.now in
    let N : List ℕ → Type 0 = λ xs. IsNumberingOf d l.products.rows (length l.members.rows) (length c.args.sections.now.rows) c.args.most xs l.walk.keys in
    let numbers = subst N (sym c.of.ensures) v.numbers in
    used d c.args.sections.now.rows l.members.rows l.products.rows c.alphabet.ensures.valid m c.requires.sections (omega (arith, v.few, c.requires.most)) v.members v.table c.args.most of l.walk.keys numbers

pub grown_members-requires-clause-closed : goal.grown_members-requires-clause-closed
grown_members-requires-clause-closed c = λ i r x a b k e h.
    let d = c.args.sections.now.alphabet in
    let l = c.loop-survey in
    let v = l.invariant in
    let m : IsMachine d l.members.rows = subst (λ e. IsMachine e l.members.rows) v.members_over c.rows.ensures.valid in
    let of = c.of.result.now in
    let N : List ℕ → Type 0 = λ xs. IsNumberingOf d l.products.rows (length l.members.rows) (length c.args.sections.now.rows) c.args.most xs l.walk.keys in
    let numbers = subst N (sym c.of.ensures) v.numbers in
    closed d c.args.sections.now.rows l.members.rows l.products.rows c.alphabet.ensures.valid m c.requires.sections (omega (arith, v.few, c.requires.most)) v.members v.table c.args.most of l.walk.keys numbers i r x a b k e (omega (arith, h, v.products_over))

pub with_products-requires-in-loop-survey-clause-known : goal.with_products-requires-in-loop-survey-clause-known
with_products-requires-in-loop-survey-clause-known c =
    let qs = c.args.sections.now.rows in
    let l = c.loop-survey in
    let v = l.invariant in
    subst (λ rows. AreProductRows c.in_ok-members-2.members.rows qs rows) (sym c.into_rows.ensures.value)
    (AreProductRows-grown l.members.rows c.in_ok-members-2.members.rows qs l.products.rows c.requires.sections.some v.table.count c.in_ok-members-2.ensures.rows.same v.table.each)

pub number_products-requires-in-loop-survey-clause-members : goal.number_products-requires-in-loop-survey-clause-members
number_products-requires-in-loop-survey-clause-members c =
    let d = c.args.sections.now.alphabet in
    let l = c.loop-survey in
    let v = l.invariant in
    let m : IsMachine d l.members.rows = subst (λ e. IsMachine e l.members.rows) v.members_over c.rows.ensures.valid in
    let of = c.of.result.now in
    let N : List ℕ → Type 0 = λ xs. IsNumberingOf d l.products.rows (length l.members.rows) (length c.args.sections.now.rows) c.args.most xs l.walk.keys in
    let numbers = subst N (sym c.of.ensures) v.numbers in
    AreMembers-grown d c.args.sections.now.rows l.members.rows l.products.rows c.alphabet.ensures.valid m c.requires.sections (omega (arith, v.few, c.requires.most)) v.members v.table c.args.most of l.walk.keys numbers c.in_ok-members-2.members.rows c.in_ok-members-2.ensures.rows c.in_ok-members-2.ensures.count

pub returns-clause-closure : goal.returns-clause-closure
returns-clause-closure c =
    let d = c.args.sections.now.alphabet in
    let l = c.loop-survey in
    let v = l.invariant in
    let m : IsMachine d l.members.rows = subst (λ e. IsMachine e l.members.rows) v.members_over c.rows.ensures.valid in
    let of = c.of-2.result.now in
    let N : List ℕ → Type 0 = λ xs. IsNumberingOf d l.products.rows (length l.members.rows) (length c.args.sections.now.rows) c.args.most xs l.walk.keys in
    let numbers = subst N (sym c.of-2.ensures) v.numbers in
    let done : length l.walk.keys ≤ length l.members.rows = omega (arith, c.loop-survey-test.false, ap length c.keys.ensures.value, ap length c.rows.ensures.value) in
    let marks = c.in_ok-outside.outside.items in
    let outside : AreOutside of l.walk.keys marks (length l.products.rows) = subst (λ k. AreOutside of l.walk.keys marks k) numbers.classes.count c.in_ok-outside.ensures in
    IsClosure-from d c.args.sections.now.rows l.members.rows l.products.rows c.alphabet.ensures.valid m c.requires.sections (omega (arith, v.few, c.requires.most)) v.members v.table c.args.most of l.walk.keys numbers done marks outside

pub loop-survey-init : goal.loop-survey-init
loop-survey-init c =
    let over = c.in_ok-members.ensures.alphabet ∙ c.alphabet.ensures.value in
    record {
      members_over = over;
      products_over = c.in_ok-products.ensures.alphabet ∙ over;
      members = AreMembers-identity c.args.sections.now.alphabet c.args.sections.now.rows c.in_ok-members.members.rows (omega (arith, c.alphabet.ensures.valid.few)) c.requires.sections c.in_ok-members.ensures.size c.in_ok-members.ensures.alike;
      table = c.in_ok-products.ensures.rows;
      survey = c.in_ok-walk.ensures.survey;
      few = omega (arith, c.in_ok-members.ensures.size, c.requires.least);
      numbers = c.in_ok-walk.ensures.numbers;
      bound = c.in_ok-walk.ensures.bound;
    }

pub loop-survey-preserved : goal.loop-survey-preserved
loop-survey-preserved c =
    let d = c.args.sections.now.alphabet in
    let l = c.loop-survey in
    let v = l.invariant in
    let m : IsMachine d l.members.rows = subst (λ e. IsMachine e l.members.rows) v.members_over c.rows.ensures.valid in
    let of = c.of.result.now in
    let N : List ℕ → Type 0 = λ xs. IsNumberingOf d l.products.rows (length l.members.rows) (length c.args.sections.now.rows) c.args.most xs l.walk.keys in
    let numbers = subst N (sym c.of.ensures) v.numbers in
    let over = c.in_ok-members-2.ensures.alphabet ∙ v.products_over in
    record {
      members_over = over;
      products_over = c.in_ok-products-2.ensures.alphabet ∙ over;
      members = AreMembers-grown d c.args.sections.now.rows l.members.rows l.products.rows c.alphabet.ensures.valid m c.requires.sections (omega (arith, v.few, c.requires.most)) v.members v.table c.args.most of l.walk.keys numbers c.in_ok-members-2.members.rows c.in_ok-members-2.ensures.rows c.in_ok-members-2.ensures.count;
      table = c.in_ok-products-2.ensures.rows;
      survey = c.in_ok-walk-2.ensures.survey;
      few = omega (arith, c.in_ok-members-2.ensures.count, v.numbers.few);
      numbers = c.in_ok-walk-2.ensures.numbers;
      bound = c.in_ok-walk-2.ensures.bound;
    }

pub outside_of-requires : goal.outside_of-requires
outside_of-requires c =
    let l = c.loop-survey in
    let v = l.invariant in
    let P : List ℕ → Type 0 = λ xs. All (λ x. x < l.walk.bound) xs in
    let of = classes_of l.survey in
    record { below = subst P (sym c.of-2.ensures) (subst (λ k. All (λ x. x < k) of) (sym v.bound) (classes_below l.products.rows of v.numbers.classes)) }

pub grown_members-requires-clause-classes : goal.grown_members-requires-clause-classes
grown_members-requires-clause-classes c = subst (AreClasses c.loop-survey.products.rows) (sym c.of.ensures) c.loop-survey.invariant.numbers.classes

pub grown_members-requires-clause-keys : goal.grown_members-requires-clause-keys
grown_members-requires-clause-keys c = subst (λ xs. IsKeys (length xs) c.loop-survey.walk.keys) (sym c.of.ensures) c.loop-survey.invariant.numbers.keyed

pub grown_members-requires-clause-bound : goal.grown_members-requires-clause-bound
grown_members-requires-clause-bound c = c.loop-survey.invariant.bound ∙ ap length (sym c.of.ensures)

pub of-requires : goal.of-requires
of-requires c =
    let l = c.loop-survey in
    subst (λ d. IsSurvey d l.products.rows l.survey) (sym l.invariant.products_over) l.invariant.survey

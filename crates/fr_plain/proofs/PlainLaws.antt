-- A script writes one text, and is charged one number.
use Rattle.std.proofs.Common.{ℕ, ◌≡◌, ◌<◌, ◌||◌, Bool, List, [], ◌∷◌, ◌++◌, sym, ◌∙◌, ap, subst, arith}
use Rattle.fr_script.specs.declared.item.Item.{Item}
use Rattle.fr_script.specs.declared.script.Script.{Script}
use Rattle.fr_script.proofs.BlockLaws.{one_script}
use Rattle.fr_plain.specs.Scopes.{Scope}
use Rattle.fr_plain.specs.Outcomes.{Outcome}
use Rattle.fr_plain.specs.Plain.{AreOutcomes, text_of, charge_of, has_fault, IsPlain}
use Rattle.fr_plain.specs.Beginnings.{ReachesCharge, PassesCharge}
use Rattle.fr_plain.specs.Held.{steps_of, HoldsClasses, HasCensus, AreAlikeSteps}
use Rattle.fr_plain.proofs.HeldLaws.{alike_steps_same, alike_steps_append, holds_once}
use Rattle.fr_plain.proofs.OutcomeLaws.{outcome_once}
use Rattle.fr_plain.proofs.BeginningLaws.{reaches_le, whole_reaches}

-- two lists of outcomes write the same
abbrev SameWhole : List Outcome → List Outcome → Type 0
SameWhole os ps = (text_of os ≡ text_of ps) × (charge_of os ≡ charge_of ps) × (has_fault os ≡ has_fault ps)

outcomes_once : (d : ℕ) (scope : Scope) (items : List Item) (os ps : List Outcome) → AreOutcomes d scope items os → AreOutcomes d scope items ps → SameWhole os ps
outcomes_once d scope [] os ps x y =
    let e : os ≡ ps = x ∙ sym y in
    (ap text_of e, ap charge_of e, ap has_fault e)
outcomes_once d scope (item ∷ items) [] ps x y = absurd x
outcomes_once d scope (item ∷ items) (o ∷ os) [] x y = absurd y
outcomes_once d scope (item ∷ items) (o ∷ os) (p ∷ ps) x y =
    let h = outcome_once d scope item o p x.0 y.0 in
    let rest = outcomes_once d o.scope items os ps x.1 (subst (λ (c : Scope). AreOutcomes d c items ps) (sym h.scope) y.1) in (
      ap (λ (t : List ℕ). t ++ text_of os) h.text ∙ ap (λ (t : List ℕ). p.text ++ t) rest.0,
      omega (arith, h.charge, rest.1),
      ap (λ (b : Bool). b || has_fault os) h.refused ∙ ap (λ (b : Bool). p.refused || b) rest.2,
    )

-- outcomes of the items of one script
pub scripts_same : (bytes : List ℕ) (text other : List ℕ) (refused faulty : Bool) (m n : ℕ) (a : IsPlain bytes text refused m) (b : IsPlain bytes other faulty n) → SameWhole a.outcomes b.outcomes
scripts_same bytes text other refused faulty m n a b =
    let e : a.script ≡ b.script = one_script bytes a.script b.script a.reads b.reads in
    outcomes_once a.script.alphabet [] a.script.items a.outcomes b.outcomes a.evaluates
    (subst (λ (s : Script). AreOutcomes s.alphabet [] s.items b.outcomes) (sym e) b.evaluates)

pub passes_whole : (bytes text : List ℕ) (refused : Bool) (n limit : ℕ) → PassesCharge bytes limit → IsPlain bytes text refused n → limit < n
passes_whole bytes text refused n limit p a =
    let e : p.script ≡ a.script = one_script bytes p.script a.script p.reads a.reads in
    let r = subst (λ (s : Script). ReachesCharge s.alphabet [] s.items p.charge) e p.reaches in
    omega (arith, p.passes, a.charge_is, reaches_le a.script.alphabet [] a.script.items p.charge a.outcomes r a.evaluates)

pub whole_passes : (bytes text : List ℕ) (refused : Bool) (n limit : ℕ) → IsPlain bytes text refused n → limit < n → PassesCharge bytes limit
whole_passes bytes text refused n limit a h = record {
  script = a.script;
  reads = a.reads;
  charge = charge_of a.outcomes;
  reaches = whole_reaches a.script.alphabet [] a.script.items a.outcomes a.evaluates;
  passes = omega (arith, h, a.charge_is);
}

-- ---- what a script holds
outcomes_alike : (d : ℕ) (scope : Scope) (items : List Item) (os ps : List Outcome) → AreOutcomes d scope items os → AreOutcomes d scope items ps → AreAlikeSteps (steps_of os) (steps_of ps)
outcomes_alike d scope [] os ps x y = alike_steps_same (steps_of os) (steps_of ps) (ap steps_of (x ∙ sym y))
outcomes_alike d scope (item ∷ items) [] ps x y = absurd x
outcomes_alike d scope (item ∷ items) (o ∷ os) [] x y = absurd y
outcomes_alike d scope (item ∷ items) (o ∷ os) (p ∷ ps) x y =
    let h = outcome_once d scope item o p x.0 y.0 in
    alike_steps_append o.steps p.steps (steps_of os) (steps_of ps) h.steps (outcomes_alike d o.scope items os ps x.1 (subst (λ (c : Scope). AreOutcomes d c items ps) (sym h.scope) y.1))

pub census_once : (bytes : List ℕ) (m n : ℕ) → HasCensus bytes m → HasCensus bytes n → m ≡ n
census_once bytes m n a b =
    let e : a.script ≡ b.script = one_script bytes a.script b.script a.reads b.reads in
    let evaluates = subst (λ (s : Script). AreOutcomes s.alphabet [] s.items b.outcomes) (sym e) b.evaluates in
    let holds = subst (λ (s : Script). HoldsClasses s.alphabet (steps_of b.outcomes) n) (sym e) b.holds in
    holds_once a.script.alphabet (steps_of a.outcomes) (steps_of b.outcomes) m n (outcomes_alike a.script.alphabet [] a.script.items a.outcomes b.outcomes a.evaluates evaluates) a.holds holds

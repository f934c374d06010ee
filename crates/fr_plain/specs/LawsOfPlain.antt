-- The laws of the plain evaluation: what a script writes and what it is charged is determined.
use Rattle.std.specs.Prelude.{ℕ, ◌≡◌, ◌<◌, Bool, List, Contains}
use Rattle.fr_script.specs.declared.item.Item.{Item}
use Rattle.fr_plain.specs.Scopes.{Scope}
use Rattle.fr_plain.specs.Steps.{Step}
use Rattle.fr_plain.specs.Outcomes.{Outcome, IsOutcome}
use Rattle.fr_plain.specs.Plain.{IsPlain}
use Rattle.fr_plain.specs.Held.{HoldsClasses, AreAlikeSteps, HasCensus}
use Rattle.fr_plain.specs.Beginnings.{PassesCharge}

-- an item makes one list of elements, up to acting alike, has one text, one charge and one end, and leaves one list of
-- bindings
pub record OutcomesAreDetermined : Type 0 where
  pub one_making : (d : ℕ) (scope : Scope) (item : Item) (o p : Outcome) → IsOutcome d scope item o → IsOutcome d scope item p → AreAlikeSteps o.steps p.steps
  pub one_text : (d : ℕ) (scope : Scope) (item : Item) (o p : Outcome) → IsOutcome d scope item o → IsOutcome d scope item p → o.text ≡ p.text
  pub one_charge : (d : ℕ) (scope : Scope) (item : Item) (o p : Outcome) → IsOutcome d scope item o → IsOutcome d scope item p → o.charge ≡ p.charge
  pub one_end : (d : ℕ) (scope : Scope) (item : Item) (o p : Outcome) → IsOutcome d scope item o → IsOutcome d scope item p → o.refused ≡ p.refused
  pub one_scope : (d : ℕ) (scope : Scope) (item : Item) (o p : Outcome) → IsOutcome d scope item o → IsOutcome d scope item p → o.scope ≡ p.scope

-- bytes write one text, with one charge and one census; the charge is more than a limit exactly where some first steps are charged more
pub record PlainIsDetermined : Type 0 where
  pub one_text : (bytes text other : List ℕ) (refused faulty : Bool) (m n : ℕ) → IsPlain bytes text refused m → IsPlain bytes other faulty n → text ≡ other
  pub one_end : (bytes text other : List ℕ) (refused faulty : Bool) (m n : ℕ) → IsPlain bytes text refused m → IsPlain bytes other faulty n → refused ≡ faulty
  pub one_charge : (bytes text other : List ℕ) (refused faulty : Bool) (m n : ℕ) → IsPlain bytes text refused m → IsPlain bytes other faulty n → m ≡ n
  pub passes : (bytes text : List ℕ) (refused : Bool) (n limit : ℕ) → PassesCharge bytes limit → IsPlain bytes text refused n → limit < n
  pub reaches : (bytes text : List ℕ) (refused : Bool) (n limit : ℕ) → IsPlain bytes text refused n → limit < n → PassesCharge bytes limit
  pub one_census : (bytes : List ℕ) (m n : ℕ) → HasCensus bytes m → HasCensus bytes n → m ≡ n

-- steps hold one number of elements, and this depends neither on their order nor on how often one stands there
pub record HeldIsDetermined : Type 0 where
  pub one_number : (d : ℕ) (steps : List Step) (m n : ℕ) → HoldsClasses d steps m → HoldsClasses d steps n → m ≡ n
  pub any_order : (d : ℕ) (steps others : List Step) (n : ℕ) → ((s : Step) → Contains steps s → Contains others s) → ((s : Step) → Contains others s → Contains steps s) → HoldsClasses d steps n → HoldsClasses d others n

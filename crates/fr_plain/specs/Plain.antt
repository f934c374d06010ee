-- The plain evaluation of a script: its items in order of lines, one after the other, where an element is its map on words.
use Rattle.std.specs.Prelude.{ℕ, ◌≡◌, ◌+◌, ◌||◌, Bool, false, List, [], ◌∷◌, ◌++◌}
use Rattle.fr_script.specs.declared.item.Item.{Item}
use Rattle.fr_script.specs.declared.script.Script.{Script}
use Rattle.fr_script.specs.Scripts.{IsScript}
use Rattle.fr_plain.specs.Scopes.{Scope}
use Rattle.fr_plain.specs.Outcomes.{Outcome, IsOutcome}

-- each item gives the outcome of its place, where it sees what the outcomes before it bind
abbrev pub AreOutcomes : ℕ → Scope → List Item → List Outcome → Type 0
AreOutcomes d scope [] os = os ≡ []
AreOutcomes d scope (item ∷ items) [] = ⊥
AreOutcomes d scope (item ∷ items) (o ∷ os) = IsOutcome d scope item o × AreOutcomes d o.scope items os

-- the bindings below outcomes
abbrev pub scope_after : Scope → List Outcome → Scope
scope_after scope [] = scope
scope_after scope (o ∷ os) = scope_after o.scope os

-- their texts, in order
abbrev pub text_of : List Outcome → List ℕ
text_of [] = []
text_of (o ∷ os) = o.text ++ text_of os

-- their charge together
abbrev pub charge_of : List Outcome → ℕ
charge_of [] = 0
charge_of (o ∷ os) = o.charge + charge_of os

-- whether one of them is a fault
abbrev pub has_fault : List Outcome → Bool
has_fault [] = false
has_fault (o ∷ os) = o.refused || has_fault os

-- the bytes write a script whose items have these texts, which stand one after the other in `text`, and this charge
-- together; `refused` says whether one of them has a fault. No name is bound above the first line
pub record IsPlain (bytes text : List ℕ) (refused : Bool) (charge : ℕ) : Type 0 where
  pub script : Script
  pub reads : IsScript bytes script
  pub outcomes : List Outcome
  pub evaluates : AreOutcomes script.alphabet [] script.items outcomes
  pub text_is : text ≡ text_of outcomes
  pub refused_is : refused ≡ has_fault outcomes
  pub charge_is : charge ≡ charge_of outcomes

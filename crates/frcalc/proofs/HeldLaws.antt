-- Outcomes of a script, cut where a walk over its items stands, and what their steps hold.
use Rattle.std.proofs.Common.{ℕ, ◌≡◌, ◌+◌, inl, inr, List, [], ◌∷◌, ◌++◌, drop, map, Option, None, refl, sym, ◌∙◌, subst, ap, append_assoc}
use Rattle.std.proofs.lemmas.List.{append-nil}
use Rattle.std.proofs.lemmas.Option.{none-some}
use Rattle.fr_model.specs.Terms.{Section}
use Rattle.fr_model.proofs.AlikeLaws.{alike_section}
use Rattle.fr_model.proofs.CodeLaws.{IsCode-alike}
use Rattle.fr_script.specs.declared.item.Item.{Item}
use Rattle.fr_script.specs.declared.script.Script.{Script}
use Rattle.fr_store.specs.Store.{GrowsBy, IsSectionCodeOfOne}
use Rattle.fr_plain.specs.Scopes.{Scope}
use Rattle.fr_plain.specs.Steps.{Step, value_of}
use Rattle.fr_plain.specs.Outcomes.{Outcome, IsOutcome}
use Rattle.fr_plain.specs.Plain.{AreOutcomes}
use Rattle.fr_plain.specs.Held.{steps_of, AreAlikeSteps}
use Rattle.fr_plain.proofs.OutcomeLaws.{outcome_once}
use Rattle.frcalc.specs.Feeding.{KnowsOnly}
use Rattle.frcalc.proofs.ItemLaws.{append_one}

-- ---- codes of sections
abbrev HasCode : ℕ → List Step → List ℕ → Type 0
HasCode d ss code = IsSectionCodeOfOne d (map value_of ss) code

code_left : (d : ℕ) (ss rs : List Step) (code : List ℕ) → HasCode d ss code → HasCode d (ss ++ rs) code
code_left d [] rs code x = absurd x
code_left d (s ∷ ss) rs code (inl x) = inl x
code_left d (s ∷ ss) rs code (inr x) = inr (code_left d ss rs code x)

code_right : (d : ℕ) (ss rs : List Step) (code : List ℕ) → HasCode d rs code → HasCode d (ss ++ rs) code
code_right d [] rs code x = x
code_right d (s ∷ ss) rs code x = inr (code_right d ss rs code x)

code_alike : (d : ℕ) (ss rs : List Step) (code : List ℕ) → AreAlikeSteps ss rs → HasCode d ss code → HasCode d rs code
code_alike d [] rs code a x = absurd x
code_alike d (s ∷ ss) [] code a x = absurd a
code_alike d (s ∷ ss) (r ∷ rs) code a (inl x) = inl (x.0, x.1, IsCode-alike d (Section (value_of s) x.0) (Section (value_of r) x.0) code (alike_section x.0 a.0) x.2)
code_alike d (s ∷ ss) (r ∷ rs) code a (inr x) = inr (code_alike d ss rs code a.1 x)

code_at : (d : ℕ) (front rest : List Outcome) (p : Outcome) (code : List ℕ) → HasCode d p.steps code → HasCode d (steps_of (front ++ p ∷ rest)) code
code_at d [] rest p code x = code_left d p.steps (steps_of rest) code x
code_at d (o ∷ front) rest p code x = code_right d o.steps (steps_of (front ++ p ∷ rest)) code (code_at d front rest p code x)

pub steps_of-push : (os : List Outcome) (o : Outcome) → steps_of (os ++ o ∷ []) ≡ steps_of os ++ o.steps
steps_of-push [] o = append-nil o.steps
steps_of-push (p ∷ os) o = ap (λ l. p.steps ++ l) (steps_of-push os o) ∙ sym (append_assoc p.steps (steps_of os) o.steps)

-- ---- cuts
-- the outcomes of a script are those above the item i and those from it on, which see the bindings of a scope
pub record IsCutAt (script : Script) (i : ℕ) (scope : Scope) (os : List Outcome) : Type 0 where
  pub front : List Outcome
  pub rest : List Outcome
  pub all : os ≡ front ++ rest
  pub below : AreOutcomes script.alphabet scope (drop i script.items) rest

abbrev pub AreCutAt : Script → ℕ → Scope → Type 0
AreCutAt script i scope = (os : List Outcome) → AreOutcomes script.alphabet [] script.items os → IsCutAt script i scope os

pub cuts_begin : (script : Script) → AreCutAt script 0 []
cuts_begin script = λ os a. record { front = []; rest = os; all = refl; below = a }

-- the outcomes above an item, its own, and those below it
record IsSplitAt (script : Script) (i : ℕ) (scope : Scope) (item : Item) (os : List Outcome) : Type 0 where
  front : List Outcome
  here : Outcome
  rest : List Outcome
  all : os ≡ front ++ here ∷ rest
  is : IsOutcome script.alphabet scope item here
  below : AreOutcomes script.alphabet here.scope (drop (i + 1) script.items) rest

module _ {script : Script} {i : ℕ} {scope : Scope} (item : Item) (at : drop i script.items ≡ item ∷ drop (i + 1) script.items) (cuts : AreCutAt script i scope) where
  split_at : (os : List Outcome) → AreOutcomes script.alphabet [] script.items os → IsSplitAt script i scope item os
  split_at os a = from c.rest c.all (subst (λ (l : List Item). AreOutcomes script.alphabet scope l c.rest) at c.below)
    where
      c : IsCutAt script i scope os
      c = cuts os a

      from : (rest : List Outcome) → os ≡ c.front ++ rest → AreOutcomes script.alphabet scope (item ∷ drop (i + 1) script.items) rest → IsSplitAt script i scope item os
      from [] e x = absurd x
      from (p ∷ rest) e x = record { front = c.front; here = p; rest = rest; all = e; is = x.0; below = x.1 }

  -- past an item whose outcomes leave these bindings
  pub cuts_past : (scope' : Scope) → ((o : Outcome) → IsOutcome script.alphabet scope item o → o.scope ≡ scope') → AreCutAt script (i + 1) scope'
  cuts_past scope' same = λ os a.
      let p = split_at os a in
      record {
        front = p.front ++ p.here ∷ [];
        rest = p.rest;
        all = p.all ∙ sym (append_one p.front p.rest p.here);
        below = subst (λ (c : Scope). AreOutcomes script.alphabet c (drop (i + 1) script.items) p.rest) (same p.here p.is) p.below;
      }

  -- past an item whose outcome was met
  pub cuts_met : (o : Outcome) → IsOutcome script.alphabet scope item o → AreCutAt script (i + 1) o.scope
  cuts_met o is = cuts_past o.scope (λ p x. (outcome_once script.alphabet scope item p o x is).scope)

  -- what became known are sections of what the item makes
  pub knows_more : (old new : ℕ → Option (List ℕ)) (o : Outcome) → IsOutcome script.alphabet scope item o → KnowsOnly script old → GrowsBy script.alphabet old new (map value_of o.steps) → KnowsOnly script new
  knows_more old new o is only grows = λ os a n code k.
      elim (grows.only n code k) [
        | inl same ↦ only os a n code same
        | inr x ↦
            let p = split_at os a in
            let y = code_alike script.alphabet o.steps p.here.steps code (outcome_once script.alphabet scope item o p.here is p.is).steps x in
            subst (λ (l : List Outcome). HasCode script.alphabet (steps_of l) code) (sym p.all) (code_at script.alphabet p.front p.rest p.here code y)
      ]

-- a store that knows nothing
pub knows_nothing : (script : Script) (known : ℕ → Option (List ℕ)) → ((n : ℕ) → known n ≡ None) → KnowsOnly script known
knows_nothing script known none = λ os a n code k. absurd (none-some code (sym (none n) ∙ k))

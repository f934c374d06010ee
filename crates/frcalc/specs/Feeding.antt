-- What a session replied to the items of a script that were fed to it, and what the others see of it.
use Rattle.std.specs.Prelude.{ℕ, suc, ◌≡◌, ◌+◌, ◌≤◌, Bool, List, [], ◌∷◌, ◌++◌, map, Option, Some, None, Result, Ok, Err}
use Rattle.fr_script.specs.declared.item.Item.{Item}
use Rattle.fr_script.specs.declared.item.Body.{Body}
use Rattle.fr_script.specs.declared.script.Script.{Script}
use Rattle.fr_store.specs.declared.vec_store.VecStore.{VecStore}
use Rattle.fr_store.specs.Store.{View, IsSectionCodeOfOne}
use Rattle.fr_store.specs.VecView.{vec_view}
use Rattle.fr_plain.specs.Scopes.{Scope}
use Rattle.fr_plain.specs.Steps.{value_of}
use Rattle.fr_plain.specs.Outcomes.{Outcome, IsOutcome}
use Rattle.fr_plain.specs.Plain.{AreOutcomes}
use Rattle.fr_plain.specs.Held.{steps_of}
use Rattle.fr_expr.specs.Evaluation.{HaveHandles}
use Rattle.fr_expr.specs.Names.{Names, AreNames}
use Rattle.fr_eval.specs.declared.ends.Stop.{Stop}
use Rattle.fr_eval.specs.declared.ends.Stop.TheVariants as stop
use Rattle.fr_session.specs.declared.session.Reply.{Reply}
use Rattle.fr_session.specs.declared.fault.SessionFault.{SessionFault}
use Rattle.fr_session.specs.declared.fault.SessionFault.TheVariants as session
use Rattle.fr_session.specs.Feeding.{BindsNothing, Replies, FindsNoRoom}
use Rattle.frcalc.specs.declared.feeding.Fed.{Fed}
use Rattle.frcalc.specs.Items.{AnswersItem}

-- the text, the charge and the end of the outcome
pub record IsReplyOf (o : Outcome) (r : Reply) : Type 0 where
  pub text_is : r.text.items ≡ o.text
  pub charge_is : r.charge ≡ o.charge
  pub refused_is : r.refused ≡ o.refused

-- what is charged for a reply, and nothing where there is none
abbrev pub charge_at : Option Reply → ℕ
charge_at None = 0
charge_at (Some r) = r.charge

abbrev pub charge_in : List (Option Reply) → ℕ
charge_in [] = 0
charge_in (r ∷ rs) = charge_at r + charge_in rs

-- Where there is no reply, the item binds nothing, and the names at its line are those that the definitions above it bind.
-- Each reply is that of the outcome of its item, whose steps were made.
abbrev pub AreFed : ℕ → (ℕ → Option (List ℕ)) → Names → Scope → List Item → List (Option Reply) → Type 0
AreFed d known names scope [] rs = rs ≡ []
AreFed d known names scope (item ∷ items) [] = ⊥
AreFed d known names scope (item ∷ items) (None ∷ rs) = BindsNothing item.body × AreNames d known names item.line scope × AreFed d known names scope items rs
AreFed d known names scope (item ∷ items) (Some r ∷ rs) = (o : Outcome) × IsOutcome d scope item o × IsReplyOf o r × HaveHandles d known o.steps × AreFed d known names o.scope items rs

-- all that is known are sections of what the items of the script make
abbrev pub KnowsOnly : Script → (ℕ → Option (List ℕ)) → Type 0
KnowsOnly script known = (os : List Outcome) → AreOutcomes script.alphabet [] script.items os → (n : ℕ) (code : List ℕ) → known n ≡ Some code
    → IsSectionCodeOfOne script.alphabet (map value_of (steps_of os)) code

-- a new store with room for so many rows and a session without names were fed the script: what was claimed is at most what
-- was charged, and this is at most the limit
pub record IsFed (script : Script) (limit : ℕ) (store : VecStore) (names : Names) (fed : Fed) : Type 0 where
  pub are_fed : AreFed script.alphabet (vec_view.known store) names [] script.items fed.replies.items
  pub only : KnowsOnly script (vec_view.known store)
  pub charge_is : fed.charge ≡ charge_in fed.replies.items
  pub own : vec_view.own store ≤ fed.charge
  pub within : fed.charge ≤ limit
  pub alphabet : vec_view.alphabet store ≡ script.alphabet
  pub capacity : vec_view.capacity store ≡ limit

-- how it ends that an item is fed, or is left out because it asks
abbrev pub FeedsItem : {S : Type 0} → View S → ℕ → Scope → Item → S → S → Names → Result (Option Reply) SessionFault → Type 0
FeedsItem view d scope item old new names (Ok None) = BindsNothing item.body × (new ≡ old) × AreNames d (view.known new) names (suc item.line) scope
FeedsItem view d scope item old new names (Ok (Some reply)) = Replies view d scope item old new names reply
FeedsItem view d scope item old new names (Err (session.Full claimed asked)) = FindsNoRoom view d scope item old new claimed asked
FeedsItem view d scope item old new names (Err session.NoMemory) = Unit {0}

-- the item binds nothing, if it has no reply
abbrev pub BindsUnlessReplied : Body → Option Reply → Type 0
BindsUnlessReplied body None = BindsNothing body
BindsUnlessReplied body (Some reply) = Unit {0}

-- the text of a reply is appended, and nothing is evaluated
pub record Repeats {S : Type 0} (reply : Reply) (old new : S) (before after : ℕ) (text text' : List ℕ) (refused : Bool) : Type 0 where
  pub store : new ≡ old
  pub charge : after ≡ before
  pub text_is : text' ≡ text ++ reply.text.items
  pub refused_is : refused ≡ reply.refused

-- what is told of an item: its reply, or where there is none, its answer
abbrev pub TellsItem : {S : Type 0} → View S → Item → Names → Option Reply → S → S → ℕ → ℕ → List ℕ → List ℕ → Result Bool Stop → Type 0
TellsItem view item names None old new before after text text' result =
    (scope : Scope) → AreNames (view.alphabet old) (view.known old) names item.line scope → AnswersItem view (view.alphabet old) scope item old new before after text text' result
TellsItem view item names (Some reply) old new before after text text' (Ok refused) = Repeats reply old new before after text text' refused
TellsItem view item names (Some reply) old new before after text text' (Err s) = s ≡ stop.NoMemory

-- What feeding an item to a session does to its store and its names, and what is replied.
use Rattle.std.specs.Prelude.{ℕ, suc, ◌≡◌, ◌+◌, ◌≤◌, Result, Ok, Err}
use Rattle.fr_syntax.specs.declared.statement.Statement.{Statement}
use Rattle.fr_syntax.specs.Fits.{FitsStatement}
use Rattle.fr_syntax.specs.Sizes.{statement_size}
use Rattle.fr_script.specs.declared.item.Item.{Item}
use Rattle.fr_script.specs.declared.item.Body.{Body}
use Rattle.fr_script.specs.declared.item.Body.TheVariants as b
use Rattle.fr_store.specs.Store.{View}
use Rattle.fr_plain.specs.Scopes.{Scope}
use Rattle.fr_plain.specs.Outcomes.{Outcome, IsOutcome}
use Rattle.fr_plain.specs.Beginnings.{IsAsk}
use Rattle.fr_expr.specs.Evaluation.{Makes}
use Rattle.fr_expr.specs.Names.{Names, AreNames}
use Rattle.fr_eval.specs.Telling.{FindsFull, EndsEarly}
use Rattle.fr_session.specs.declared.fault.SessionFault.{SessionFault}
use Rattle.fr_session.specs.declared.fault.SessionFault.TheVariants.{Full, NoMemory}
use Rattle.fr_session.specs.declared.session.Reply.{Reply}

-- what the item says is over d letters and no larger than what a line or a block may say
abbrev pub FitsSaid : ℕ → ℕ → Body → Type 0
FitsSaid d line (b.Says statement) = FitsStatement d line 4096 statement × (statement_size statement ≤ 4096)
FitsSaid d line (b.Faulty fault) = Unit {0}

abbrev pub FitsFed : ℕ → Item → Type 0
FitsFed d item = FitsSaid d item.line item.body

-- an item that asks, or has a fault of reading
abbrev pub BindsNothing : Body → Type 0
BindsNothing (b.Says statement) = IsAsk statement
BindsNothing (b.Faulty fault) = Unit {0}

-- the reply is that of the plain evaluation of the item: its text, its charge, and whether it has a fault. Its evaluated
-- steps were made, and nothing else; below its line the names are those that its outcome leaves
pub record Replies {S : Type 0} (view : View S) (d : ℕ) (scope : Scope) (item : Item) (old new : S) (names : Names) (reply : Reply) : Type 0 where
  pub outcome : Outcome
  pub is_outcome : IsOutcome d scope item outcome
  pub makes : Makes view d old new 0 reply.charge outcome.steps
  pub text_is : reply.text.items ≡ outcome.text
  pub charge_is : reply.charge ≡ outcome.charge
  pub refused_is : reply.refused ≡ outcome.refused
  pub names_are : AreNames d (view.known new) names (suc item.line) outcome.scope

-- first steps of the item were made, and the next one found the store full. What was claimed, and what was asked for, are
-- together at most what the item is charged
pub record FindsNoRoom {S : Type 0} (view : View S) (d : ℕ) (scope : Scope) (item : Item) (old new : S) (claimed asked : ℕ) : Type 0 where
  pub statement : Statement
  pub says : item.body ≡ b.Says statement
  pub charged : ℕ
  pub finds : FindsFull view d scope statement old new 0 charged claimed asked
  pub within : (o : Outcome) → IsOutcome d scope item o → view.own new + asked ≤ view.own old + o.charge

-- some first steps of what an item says were made, and nothing else
abbrev pub MakesFirst : {S : Type 0} → View S → ℕ → Scope → Body → S → S → Type 0
MakesFirst view d scope (b.Says statement) old new = (charged : ℕ) × EndsEarly view d scope statement old new 0 charged
MakesFirst view d scope (b.Faulty fault) old new = new ≡ old

-- how it ends that an item is fed
abbrev pub Feeds : {S : Type 0} → View S → ℕ → Scope → Item → S → S → Names → Result Reply SessionFault → Type 0
Feeds view d scope item old new names (Ok reply) = Replies view d scope item old new names reply
Feeds view d scope item old new names (Err (Full claimed asked)) = FindsNoRoom view d scope item old new claimed asked
Feeds view d scope item old new names (Err NoMemory) = MakesFirst view d scope item.body old new

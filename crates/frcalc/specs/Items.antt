-- What the answer to an item does that is not fed: one that asks, or one with a fault of reading.
use Rattle.std.specs.Prelude.{ℕ, ◌≡◌, ◌+◌, Bool, List, ◌++◌, Result, Ok, Err}
use Rattle.fr_syntax.specs.declared.statement.Statement.{Statement}
use Rattle.fr_script.specs.declared.item.Item.{Item}
use Rattle.fr_script.specs.declared.item.Body.TheVariants as b
use Rattle.fr_store.specs.Store.{View}
use Rattle.fr_plain.specs.Scopes.{Scope}
use Rattle.fr_plain.specs.Outcomes.{Outcome, IsOutcome}
use Rattle.fr_expr.specs.Evaluation.{Makes}
use Rattle.fr_eval.specs.Telling.{FindsFull}
use Rattle.fr_eval.specs.declared.ends.Stop.{Stop}
use Rattle.fr_eval.specs.declared.ends.Stop.TheVariants.{Full, NoMemory}

-- the outcome of the item was followed: its evaluated steps were made, and nothing else, its charge was added and its text
-- appended
pub record Follows {S : Type 0} (view : View S) (d : ℕ) (scope : Scope) (item : Item) (old new : S) (before after : ℕ) (text text' : List ℕ) (refused : Bool) : Type 0 where
  pub outcome : Outcome
  pub is_outcome : IsOutcome d scope item outcome
  pub makes : Makes view d old new before after outcome.steps
  pub refused_is : refused ≡ outcome.refused
  pub text_is : text' ≡ text ++ outcome.text
  pub charged : after ≡ before + outcome.charge

-- a statement found the store full
pub record Fills {S : Type 0} (view : View S) (d : ℕ) (scope : Scope) (item : Item) (old new : S) (before after claimed asked : ℕ) : Type 0 where
  pub statement : Statement
  pub says : item.body ≡ b.Says statement
  pub finds : FindsFull view d scope statement old new before after claimed asked

-- how an item is answered
abbrev pub AnswersItem : {S : Type 0} → View S → ℕ → Scope → Item → S → S → ℕ → ℕ → List ℕ → List ℕ → Result Bool Stop → Type 0
AnswersItem view d scope item old new before after text text' (Ok refused) = Follows view d scope item old new before after text text' refused
AnswersItem view d scope item old new before after text text' (Err (Full claimed asked)) = Fills view d scope item old new before after claimed asked
AnswersItem view d scope item old new before after text text' (Err NoMemory) = Unit {0}

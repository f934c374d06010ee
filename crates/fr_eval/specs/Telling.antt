-- What the evaluation of a statement does to a store, to a charge, to a text and to the names, and how it ends.
use Rattle.std.specs.Prelude.{ℕ, suc, ◌≡◌, ◌+◌, ◌<◌, ◌≤◌, true, false, List, [], ◌∷◌, ◌++◌, Result, Ok, Err}
use Rattle.fr_syntax.specs.declared.statement.Statement.{Statement}
use Rattle.fr_script.specs.FaultTexts.{fault_text}
use Rattle.fr_store.specs.Store.{View, IsUnknown}
use Rattle.fr_plain.specs.Scopes.{Scope}
use Rattle.fr_plain.specs.Steps.{Step, value_of, IsCharged}
use Rattle.fr_plain.specs.Outcomes.{Outcome, IsStatement}
use Rattle.fr_plain.specs.Beginnings.{AreFirstSteps}
use Rattle.fr_expr.specs.Evaluation.{Makes}
use Rattle.fr_expr.specs.Names.{Names, AreNames}
use Rattle.fr_eval.specs.declared.ends.LineEnd.{LineEnd}
use Rattle.fr_eval.specs.declared.ends.LineEnd.TheVariants.{Fine, Refused}
use Rattle.fr_eval.specs.declared.ends.Stop.{Stop}
use Rattle.fr_eval.specs.declared.ends.Stop.TheVariants.{Full, NoMemory}

-- a line without a fault ends well, and one with a fault prints it, with the number of the line that it is found at
abbrev pub IsEnd : Outcome → LineEnd → Type 0
IsEnd o Fine = o.refused ≡ false
IsEnd o (Refused fault) = (o.refused ≡ true) × (at : ℕ) × (o.text ≡ fault_text (record { line = at; kind = fault }))

-- the plain evaluation of the statement was followed to its end: its evaluated steps were made, and nothing else, its
-- charge was added and its text appended
pub record Tells {S : Type 0} (view : View S) (d line : ℕ) (scope : Scope) (statement : Statement) (old new : S) (before after : ℕ) (text text' : List ℕ) (end : LineEnd) : Type 0 where
  pub outcome : Outcome
  pub is_outcome : IsStatement line d scope statement outcome
  pub makes : Makes view d old new before after outcome.steps
  pub charged : after ≡ before + outcome.charge
  pub text_is : text' ≡ text ++ outcome.text
  pub ends : IsEnd outcome end

-- first steps were made, and the next one would be evaluated, but found the store full: its element is not known, and its
-- states are more than there is room for. All of them are charged so much
pub record FindsFull {S : Type 0} (view : View S) (d : ℕ) (scope : Scope) (statement : Statement) (old new : S) (before after claimed asked : ℕ) : Type 0 where
  pub done : List Step
  pub next : Step
  pub charge : ℕ
  pub first : AreFirstSteps d scope statement (done ++ next ∷ []) charge
  pub makes : Makes view d old new before after done
  pub next_charged : IsCharged d next asked
  pub charged : before + charge ≡ after + asked
  pub unknown : IsUnknown d (view.known new) (value_of next)
  pub passes : view.capacity new < claimed + asked
  pub seen : claimed ≤ view.seen new

-- some first steps were made
pub record EndsEarly {S : Type 0} (view : View S) (d : ℕ) (scope : Scope) (statement : Statement) (old new : S) (before after : ℕ) : Type 0 where
  pub done : List Step
  pub charge : ℕ
  pub first : AreFirstSteps d scope statement done charge
  pub makes : Makes view d old new before after done

-- why the evaluation of a statement stopped; nothing is appended then
abbrev pub Stops : {S : Type 0} → View S → ℕ → Scope → Statement → S → S → ℕ → ℕ → List ℕ → List ℕ → Stop → Type 0
Stops view d scope statement old new before after text text' (Full claimed asked) = FindsFull view d scope statement old new before after claimed asked × (text' ≡ text)
Stops view d scope statement old new before after text text' NoMemory = EndsEarly view d scope statement old new before after × (text' ≡ text)

-- how a statement that asks is answered
abbrev pub Answers : {S : Type 0} → View S → ℕ → ℕ → Scope → Statement → S → S → ℕ → ℕ → List ℕ → List ℕ → Result LineEnd Stop → Type 0
Answers view d line scope statement old new before after text text' (Ok end) = Tells view d line scope statement old new before after text text' end
Answers view d line scope statement old new before after text text' (Err stop) = Stops view d scope statement old new before after text text' stop

-- the same of a definition; below its line the names are those that its outcome leaves
pub record Leaves {S : Type 0} (view : View S) (d line : ℕ) (scope : Scope) (statement : Statement) (old new : S) (before after : ℕ) (names : Names) (text text' : List ℕ) (end : LineEnd) : Type 0 where
  pub tells : Tells view d line scope statement old new before after text text' end
  pub names_are : AreNames d (view.known new) names (suc line) tells.outcome.scope

-- how a definition ends
abbrev pub Defines : {S : Type 0} → View S → ℕ → ℕ → Scope → Statement → S → S → ℕ → ℕ → Names → List ℕ → List ℕ → Result LineEnd Stop → Type 0
Defines view d line scope statement old new before after names text text' (Ok end) = Leaves view d line scope statement old new before after names text text' end
Defines view d line scope statement old new before after names text text' (Err stop) = Stops view d scope statement old new before after text text' stop

-- the line has no fault
abbrev pub IsFine : Result LineEnd Stop → Type 0
IsFine result = result ≡ Ok Fine

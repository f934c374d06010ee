-- What a statement that asks does when its expressions are evaluated.
use Rattle.std.specs.Prelude.{ℕ, ◌≡◌, ◌⊎◌, ◌+◌, ◌<◌, ◌≤◌, true, false, List, [], ◌∷◌, ◌++◌, Result, Ok, Err}
use Rattle.std.specs.Global.{Vec}
use Rattle.fr_syntax.specs.declared.statement.Statement.{Statement}
use Rattle.fr_syntax.specs.declared.statement.Statement.TheVariants as st
use Rattle.fr_script.specs.FaultTexts.{fault_text}
use Rattle.fr_store.specs.declared.handle.Handle.{Handle}
use Rattle.fr_store.specs.Store.{View, IsUnknown}
use Rattle.fr_plain.specs.Scopes.{Scope}
use Rattle.fr_plain.specs.Steps.{Step, value_of, IsCharged}
use Rattle.fr_plain.specs.Answers.{Ending, says}
use Rattle.fr_plain.specs.Expansions.{Expansion, steps_of_all, values_of_all}
use Rattle.fr_plain.specs.Outcomes.{Outcome, IsStatement}
use Rattle.fr_plain.specs.Beginnings.{AreFirstSteps}
use Rattle.fr_expr.specs.declared.fault.EvalFault.{EvalFault}
use Rattle.fr_expr.specs.declared.fault.EvalFault.TheVariants.{Refused, Full, NoMemory}
use Rattle.fr_expr.specs.Evaluation.{Makes, StopsAt, StopsFull, StopsEarly}
use Rattle.fr_eval.specs.Telling.{FindsFull, EndsEarly}
use Rattle.fr_eval.specs.Generators.{StandForAll}

-- a text was appended with which a statement ends that makes no step beside its expressions
abbrev pub Prints : (Ending → Type 0) → List ℕ → List ℕ → Type 0
Prints Ends old new = (text : List ℕ) × Ends (says text) × (new ≡ old ++ text)

-- an ending was followed
pub record Follows {S : Type 0} (view : View S) (d : ℕ) (Ends : Ending → Type 0) (Beside : List Step → Type 0) (old new : S) (before after : ℕ) (e : Ending) : Type 0 where
  pub ends : Ends e
  pub first : (e.steps ≡ []) ⊎ Beside e.steps
  pub makes : Makes view d old new before after e.steps
  pub charged : after ≡ before + e.charge

-- first steps beside the expressions were made, and the next one found the store full
pub record FullBeside {S : Type 0} (view : View S) (d : ℕ) (Beside : List Step → Type 0) (old new : S) (before after claimed asked : ℕ) : Type 0 where
  pub done : List Step
  pub next : Step
  pub first : Beside (done ++ next ∷ [])
  pub makes : Makes view d old new before after done
  pub next_charged : IsCharged d next asked
  pub unknown : IsUnknown d (view.known new) (value_of next)
  pub passes : view.capacity new < claimed + asked
  pub seen : claimed ≤ view.seen new

-- some first steps beside the expressions were made
pub record EarlyBeside {S : Type 0} (view : View S) (d : ℕ) (Beside : List Step → Type 0) (old new : S) (before after : ℕ) : Type 0 where
  pub done : List Step
  pub first : (done ≡ []) ⊎ Beside done
  pub makes : Makes view d old new before after done

-- how a statement ends whose expressions are evaluated
abbrev pub Concludes : {S : Type 0} → View S → ℕ → (Ending → Type 0) → (List Step → Type 0) → S → S → ℕ → ℕ → List ℕ → List ℕ → Result (Unit {0}) EvalFault → Type 0
Concludes view d Ends Beside old new before after text text' (Ok done) = (e : Ending) × Follows view d Ends Beside old new before after e × (t : List ℕ) × (e.answer ≡ Ok t) × (text' ≡ text ++ t)
Concludes view d Ends Beside old new before after text text' (Err (Refused fault)) = (e : Ending) × Follows view d Ends Beside old new before after e × (e.answer ≡ Err fault) × (text' ≡ text)
Concludes view d Ends Beside old new before after text text' (Err (Full claimed asked)) = FullBeside view d Beside old new before after claimed asked × (text' ≡ text)
Concludes view d Ends Beside old new before after text text' (Err NoMemory) = EarlyBeside view d Beside old new before after

-- an outcome was followed
pub record Reaches {S : Type 0} (view : View S) (d line : ℕ) (scope : Scope) (statement : Statement) (old new : S) (before after : ℕ) (o : Outcome) : Type 0 where
  pub is_outcome : IsStatement line d scope statement o
  pub first : AreFirstSteps d scope statement o.steps o.charge
  pub makes : Makes view d old new before after o.steps
  pub charged : after ≡ before + o.charge

-- how a whole statement ends, before its fault is printed
abbrev pub Answered : {S : Type 0} → View S → ℕ → ℕ → Scope → Statement → S → S → ℕ → ℕ → List ℕ → List ℕ → Result (Unit {0}) EvalFault → Type 0
Answered view d line scope statement old new before after text text' (Ok done) = (o : Outcome) × Reaches view d line scope statement old new before after o × (o.refused ≡ false) × (text' ≡ text ++ o.text)
Answered view d line scope statement old new before after text text' (Err (Refused fault)) = (o : Outcome) × Reaches view d line scope statement old new before after o × (o.refused ≡ true)
    × (o.text ≡ fault_text (record { line = line; kind = fault })) × (text' ≡ text)
Answered view d line scope statement old new before after text text' (Err (Full claimed asked)) = FindsFull view d scope statement old new before after claimed asked × (text' ≡ text)
Answered view d line scope statement old new before after text text' (Err NoMemory) = EndsEarly view d scope statement old new before after

-- the statement is one of those whose answers may be refused, or that ask of more than one element
abbrev pub IsOfMore : Statement → Type 0
IsOfMore (st.Eq left right) = Unit {0}
IsOfMore (st.RayOf e ray) = Unit {0}
IsOfMore (st.Order e most) = Unit {0}
IsOfMore (st.NucleusOf es) = Unit {0}
IsOfMore _ = ⊥

-- how steps are made one after the other
abbrev pub MakesAll : {S : Type 0} → View S → ℕ → S → S → ℕ → ℕ → List Step → Result (Unit {0}) EvalFault → Type 0
MakesAll view d old new before after steps (Ok done) = Makes view d old new before after steps
MakesAll view d old new before after steps (Err (Refused fault)) = StopsAt view d old new before after steps fault
MakesAll view d old new before after steps (Err (Full claimed asked)) = StopsFull view d old new before after steps claimed asked
MakesAll view d old new before after steps (Err NoMemory) = StopsEarly view d old new before after steps

-- expressions were evaluated one after the other
abbrev pub EvaluatesAll : {S : Type 0} → View S → ℕ → S → S → ℕ → ℕ → List Expansion → Result (Vec Handle) EvalFault → Type 0
EvaluatesAll view d old new before after es (Ok hs) = StandForAll d (view.known new) hs.items (values_of_all es) × Makes view d old new before after (steps_of_all es)
EvaluatesAll view d old new before after es (Err (Refused fault)) = StopsAt view d old new before after (steps_of_all es) fault
EvaluatesAll view d old new before after es (Err (Full claimed asked)) = StopsFull view d old new before after (steps_of_all es) claimed asked
EvaluatesAll view d old new before after es (Err NoMemory) = StopsEarly view d old new before after (steps_of_all es)

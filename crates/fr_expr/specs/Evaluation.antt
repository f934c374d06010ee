-- What an evaluation does to a store and to a charge: which steps it makes, and how it ends.
use Rattle.std.specs.Prelude.{ℕ, ◌≡◌, ◌+◌, ◌<◌, ◌≤◌, List, [], ◌∷◌, ◌++◌, length, map, Option, Result, Ok, Err}
use Rattle.fr_model.specs.Terms.{Term, Product, IsAlike}
use Rattle.fr_machine.specs.Machine.{MachineView}
use Rattle.fr_machine.specs.Rows.{row_term}
use Rattle.fr_script.specs.declared.fault.LineFault.{LineFault}
use Rattle.fr_store.specs.declared.handle.Handle.{Handle}
use Rattle.fr_store.specs.Store.{View, StandsForTerm, IsUnknown, GrowsBy, Continues}
use Rattle.fr_plain.specs.Steps.{Step, Multiplied, value_of, IsCharged, IsRefused, AreEvaluated, AreStopped}
use Rattle.fr_plain.specs.Expansions.{Expansion}
use Rattle.fr_expr.specs.declared.fault.EvalFault.{EvalFault}
use Rattle.fr_expr.specs.declared.fault.EvalFault.TheVariants.{Refused, Full, NoMemory}

-- each of these steps has a handle of what it makes
abbrev pub HaveHandles : ℕ → (ℕ → Option (List ℕ)) → List Step → Type 0
HaveHandles d known [] = Unit {0}
HaveHandles d known (s ∷ ss) = ((h : Handle) × StandsForTerm d known h (value_of s)) × HaveHandles d known ss

-- these steps were made over d letters, and nothing else
pub record Makes {S : Type 0} (view : View S) (d : ℕ) (old new : S) (before after : ℕ) (steps : List Step) : Type 0 where
  pub grows : GrowsBy d (view.known old) (view.known new) (map value_of steps)
  pub handles : HaveHandles d (view.known new) steps
  pub charge : ℕ
  pub evaluated : AreEvaluated d steps charge
  pub charged : after ≡ before + charge
  pub own : view.own new + before ≤ view.own old + after
  pub continues : Continues view old new

-- the first steps were made, and the next one would be evaluated, but found the store full: its element is not known, and
-- its states are more than there is room for
pub record StopsFull {S : Type 0} (view : View S) (d : ℕ) (old new : S) (before after : ℕ) (steps : List Step) (claimed asked : ℕ) : Type 0 where
  pub done : List Step
  pub next : Step
  pub rest : List Step
  pub all : steps ≡ done ++ next ∷ rest
  pub makes : Makes view d old new before after done
  pub charged : IsCharged d next asked
  pub unknown : IsUnknown d (view.known new) (value_of next)
  pub passes : view.capacity new < claimed + asked
  pub seen : claimed ≤ view.seen new

-- some first steps were made
pub record StopsEarly {S : Type 0} (view : View S) (d : ℕ) (old new : S) (before after : ℕ) (steps : List Step) : Type 0 where
  pub done : List Step
  pub rest : List Step
  pub all : steps ≡ done ++ rest
  pub makes : Makes view d old new before after done

-- all steps were made, and the handle is that of their element
pub record Evaluated {S : Type 0} (view : View S) (d : ℕ) (old new : S) (before after : ℕ) (e : Expansion) (h : Handle) : Type 0 where
  pub handle : StandsForTerm d (view.known new) h e.value
  pub makes : Makes view d old new before after e.steps

-- the steps before the first one that is refused were made
pub record StopsAt {S : Type 0} (view : View S) (d : ℕ) (old new : S) (before after : ℕ) (steps : List Step) (fault : LineFault) : Type 0 where
  pub done : List Step
  pub charge : ℕ
  pub stopped : AreStopped d steps done charge fault
  pub makes : Makes view d old new before after done

-- how the evaluation of steps ends
abbrev pub Evaluates : {S : Type 0} → View S → ℕ → S → S → ℕ → ℕ → Expansion → Result Handle EvalFault → Type 0
Evaluates view d old new before after e (Ok h) = Evaluated view d old new before after e h
Evaluates view d old new before after e (Err (Refused fault)) = StopsAt view d old new before after e.steps fault
Evaluates view d old new before after e (Err (Full claimed asked)) = StopsFull view d old new before after e.steps claimed asked
Evaluates view d old new before after e (Err NoMemory) = StopsEarly view d old new before after e.steps

-- the smallest machine of a product, or why there is none
abbrev pub Multiplies : ℕ → Term → Term → Result MachineView EvalFault → Type 0
Multiplies d t u (Ok m) = IsCharged d (Multiplied t u) (length m.rows) × IsAlike (row_term m.rows 0) (Product t u)
Multiplies d t u (Err (Refused fault)) = IsRefused d (Multiplied t u) fault
Multiplies d t u (Err (Full claimed asked)) = ⊥
Multiplies d t u (Err NoMemory) = Unit {0}

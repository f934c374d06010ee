-- How the elements of the names of a block are entered in a store, and how a line ends with the fault of its evaluation.
use Rattle.std.specs.Prelude.{ℕ, suc, ◌≡◌, List, [], ◌∷◌, ◌++◌, length, Option, Result, Ok, Err}
use Rattle.fr_model.specs.Systems.{System}
use Rattle.fr_model.specs.Terms.{Name}
use Rattle.fr_script.specs.declared.fault.LineFault.{LineFault}
use Rattle.fr_script.specs.declared.fault.LineFault.TheVariants as f
use Rattle.fr_script.specs.FaultTexts.{fault_text}
use Rattle.fr_block.specs.declared.elements.NameFault.{NameFault}
use Rattle.fr_block.specs.declared.elements.NameFault.TheVariants as n
use Rattle.fr_store.specs.declared.handle.Handle.{Handle}
use Rattle.fr_store.specs.Store.{View, StandsForTerm}
use Rattle.fr_plain.specs.Outcomes.{name_steps}
use Rattle.fr_expr.specs.declared.fault.EvalFault.{EvalFault}
use Rattle.fr_expr.specs.declared.fault.EvalFault.TheVariants as e
use Rattle.fr_expr.specs.Evaluation.{Makes, StopsAt, StopsFull, StopsEarly}
use Rattle.fr_eval.specs.declared.ends.LineEnd.{LineEnd}
use Rattle.fr_eval.specs.declared.ends.LineEnd.TheVariants as l
use Rattle.fr_eval.specs.declared.ends.Stop.{Stop}
use Rattle.fr_eval.specs.declared.ends.Stop.TheVariants as s

-- the fault of a name as that of an evaluation
abbrev pub of_name : NameFault → EvalFault
of_name n.ClosurePassed = e.Refused f.ClosurePassed
of_name n.StatesPassed = e.Refused f.StatesPassed
of_name n.NoMemory = e.NoMemory

-- handles of the names of a system, from the place k on
abbrev pub AreHandlesFrom : ℕ → (ℕ → Option (List ℕ)) → System → ℕ → List Handle → Type 0
AreHandlesFrom d known s k [] = Unit {0}
AreHandlesFrom d known s k (h ∷ hs) = StandsForTerm d known h (Name s k) × AreHandlesFrom d known s (suc k) hs

-- all names of the system have been made, and these are their handles
pub record AreEntered {S : Type 0} (view : View S) (d : ℕ) (system : System) (old new : S) (before after : ℕ) (hs : List Handle) : Type 0 where
  pub makes : Makes view d old new before after (name_steps system (length system))
  pub count : length hs ≡ length system
  pub handles : AreHandlesFrom d (view.known new) system 0 hs

-- the name behind those with handles is refused
pub record IsNameRefused {S : Type 0} (view : View S) (d : ℕ) (system : System) (old new : S) (before after : ℕ) (hs : List Handle) (fault : LineFault) : Type 0 where
  pub stops : StopsAt view d old new before after (name_steps system (length system)) fault
  pub place : length hs ≡ length stops.done

-- how it ends that the elements of the names of a system are entered
abbrev pub EntersNames : {S : Type 0} → View S → ℕ → System → S → S → ℕ → ℕ → List Handle → Result (Unit {0}) EvalFault → Type 0
EntersNames view d system old new before after handles (Ok done) = AreEntered view d system old new before after handles
EntersNames view d system old new before after handles (Err (e.Refused fault)) = IsNameRefused view d system old new before after handles fault
EntersNames view d system old new before after handles (Err (e.Full claimed asked)) = StopsFull view d old new before after (name_steps system (length system)) claimed asked
EntersNames view d system old new before after handles (Err e.NoMemory) = StopsEarly view d old new before after (name_steps system (length system))

-- how a line ends with a fault of its evaluation that stands at a line: the fault of a step is printed, unless memory runs
-- out; else nothing is
abbrev pub EndsWith : ℕ → EvalFault → List ℕ → List ℕ → Result LineEnd Stop → Type 0
EndsWith line (e.Refused fault) text text' (Ok end) = (end ≡ l.Refused fault) × (text' ≡ text ++ fault_text (record { line = line; kind = fault }))
EndsWith line (e.Refused fault) text text' (Err stop) = (stop ≡ s.NoMemory) × (text' ≡ text)
EndsWith line (e.Full claimed asked) text text' result = (result ≡ Err (s.Full claimed asked)) × (text' ≡ text)
EndsWith line e.NoMemory text text' result = (result ≡ Err s.NoMemory) × (text' ≡ text)

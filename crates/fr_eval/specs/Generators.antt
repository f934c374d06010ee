-- Handles and machines of the elements for which terms stand, one by one.
use Rattle.std.specs.Prelude.{ℕ, List, [], ◌∷◌, Option, map}
use Rattle.fr_model.specs.Terms.{Term, IsTerm, IsAlike}
use Rattle.fr_model.specs.Automata.{State}
use Rattle.fr_machine.specs.Machine.{MachineView}
use Rattle.fr_machine.specs.Rows.{states_of}
use Rattle.fr_store.specs.declared.handle.Handle.{Handle}
use Rattle.fr_store.specs.Store.{StandsForTerm}
use Rattle.fr_nucleus.specs.declared.fault.NucleusFault.{NucleusFault}
use Rattle.fr_nucleus.specs.declared.fault.NucleusFault.TheVariants.{TooManySections, Passes, NoMemory}
use Rattle.fr_script.specs.declared.fault.LineFault.TheVariants as f
use Rattle.fr_expr.specs.declared.fault.EvalFault.{EvalFault}
use Rattle.fr_expr.specs.declared.fault.EvalFault.TheVariants as e

-- each handle is that of the element of the term at its place
abbrev pub StandForAll : ℕ → (ℕ → Option (List ℕ)) → List Handle → List Term → Type 0
StandForAll d known [] [] = Unit {0}
StandForAll d known (h ∷ hs) (t ∷ ts) = StandsForTerm d known h t × StandForAll d known hs ts
StandForAll d known _ _ = ⊥

-- terms over d letters that act alike one by one
abbrev pub AreAlikeTerms : ℕ → List Term → List Term → Type 0
AreAlikeTerms d [] [] = Unit {0}
AreAlikeTerms d (g ∷ gs) (h ∷ hs) = IsTerm d g × IsTerm d h × IsAlike g h × AreAlikeTerms d gs hs
AreAlikeTerms d _ _ = ⊥

-- the states of each machine
abbrev pub automata_of : List MachineView → List (List State)
automata_of ms = map (λ m. states_of m.rows) ms

-- why there is no nucleus, as a fault of an evaluation
abbrev pub of_nucleus : NucleusFault → EvalFault
of_nucleus TooManySections = e.Refused f.TooManySections
of_nucleus (Passes n) = e.Refused f.NucleusPassed
of_nucleus NoMemory = e.NoMemory

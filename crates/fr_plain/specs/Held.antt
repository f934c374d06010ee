-- What evaluated steps hold: the sections of the elements that they make, up to acting alike. How many there are is the
-- census of a script. This project's own.
use Rattle.std.specs.Prelude.{ℕ, ◌⊎◌, List, [], ◌∷◌, ◌++◌}
use Rattle.fr_model.specs.Words.{IsWord}
use Rattle.fr_model.specs.Terms.{Term, Section, IsAlike}
use Rattle.fr_model.specs.Classes.{IsClassCount}
use Rattle.fr_script.specs.declared.script.Script.{Script}
use Rattle.fr_script.specs.Scripts.{IsScript}
use Rattle.fr_plain.specs.Steps.{Step, value_of}
use Rattle.fr_plain.specs.Outcomes.{Outcome}
use Rattle.fr_plain.specs.Plain.{AreOutcomes}

-- the term acts like a section, at a word over d letters, of what one of the steps makes
abbrev pub IsHeld : ℕ → List Step → Term → Type 0
IsHeld d [] t = ⊥
IsHeld d (s ∷ ss) t = ((w : List ℕ) × IsWord d w × IsAlike t (Section (value_of s) w)) ⊎ IsHeld d ss t

-- the steps hold so many elements: of that many such terms no two act alike, and each such term acts like one of them
abbrev pub HoldsClasses : ℕ → List Step → ℕ → Type 0
HoldsClasses d steps count = IsClassCount (IsHeld d steps) IsAlike count

-- the steps that outcomes evaluate, in order
abbrev pub steps_of : List Outcome → List Step
steps_of [] = []
steps_of (o ∷ os) = o.steps ++ steps_of os

-- the steps of all lines of the script that the bytes write hold so many
pub record HasCensus (bytes : List ℕ) (count : ℕ) : Type 0 where
  pub script : Script
  pub reads : IsScript bytes script
  pub outcomes : List Outcome
  pub evaluates : AreOutcomes script.alphabet [] script.items outcomes
  pub holds : HoldsClasses script.alphabet (steps_of outcomes) count

-- what the steps make acts alike, one by one
abbrev pub AreAlikeSteps : List Step → List Step → Type 0
AreAlikeSteps [] [] = Unit {0}
AreAlikeSteps (s ∷ ss) (r ∷ rs) = IsAlike (value_of s) (value_of r) × AreAlikeSteps ss rs
AreAlikeSteps _ _ = ⊥

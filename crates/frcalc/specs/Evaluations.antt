-- What the evaluation of a whole script gives.
use Rattle.std.specs.Prelude.{ℕ, ◌≡◌, ◌<◌, ◌≤◌, List, []}
use Rattle.fr_script.specs.declared.script.Script.{Script}
use Rattle.fr_plain.specs.Outcomes.{Outcome}
use Rattle.fr_plain.specs.Plain.{AreOutcomes, text_of, charge_of, has_fault}
use Rattle.fr_plain.specs.Held.{steps_of, HoldsClasses}
use Rattle.fr_plain.specs.Beginnings.{ReachesCharge}
use Rattle.frcalc.specs.declared.evaluation.Evaluation.{Evaluation}

-- the texts of the outcomes of the items, in order, and whether one has a fault; their charge, which is at most the limit,
-- and how many classes their steps hold
pub record IsEvaluation (script : Script) (limit : ℕ) (e : Evaluation) : Type 0 where
  pub outcomes : List Outcome
  pub evaluates : AreOutcomes script.alphabet [] script.items outcomes
  pub text_is : e.text.items ≡ text_of outcomes
  pub refused_is : e.refused ≡ has_fault outcomes
  pub charge_is : e.charge ≡ charge_of outcomes
  pub within : charge_of outcomes ≤ limit
  pub holds : HoldsClasses script.alphabet (steps_of outcomes) e.census

-- first steps are charged more than the limit
pub record IsDearer (script : Script) (limit : ℕ) : Type 0 where
  pub charge : ℕ
  pub reaches : ReachesCharge script.alphabet [] script.items charge
  pub passes : limit < charge

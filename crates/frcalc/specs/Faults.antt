-- A full store means that the charge is more than the limit.
use Rattle.fr_eval.specs.declared.ends.Stop.{Stop}
use Rattle.fr_eval.specs.declared.ends.Stop.TheVariants as stop
use Rattle.fr_session.specs.declared.fault.SessionFault.{SessionFault}
use Rattle.fr_session.specs.declared.fault.SessionFault.TheVariants as session
use Rattle.frcalc.specs.declared.evaluation.EvaluationFault.{EvaluationFault}
use Rattle.frcalc.specs.declared.evaluation.EvaluationFault.TheVariants.{StatesPassed, NoMemory}

abbrev pub of_session : SessionFault → EvaluationFault
of_session (session.Full claimed asked) = StatesPassed
of_session session.NoMemory = NoMemory

abbrev pub of_stop : Stop → EvaluationFault
of_stop (stop.Full claimed asked) = StatesPassed
of_stop stop.NoMemory = NoMemory

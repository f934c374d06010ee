-- Why an item gives no reply, by why the evaluation of its statement stopped.
use Rattle.fr_eval.specs.declared.ends.Stop.{Stop}
use Rattle.fr_eval.specs.declared.ends.Stop.TheVariants as stop
use Rattle.fr_session.specs.declared.fault.SessionFault.{SessionFault}
use Rattle.fr_session.specs.declared.fault.SessionFault.TheVariants.{Full, NoMemory}

abbrev pub of_stop : Stop → SessionFault
of_stop (stop.Full claimed asked) = Full claimed asked
of_stop stop.NoMemory = NoMemory

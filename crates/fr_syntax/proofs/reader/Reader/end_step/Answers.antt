use Rattle.fr_syntax.proofs.StepLaws.{end_step-last}
use Rattle.fr_syntax.proofs.reader.Reader.end_step.Goals as goal

pub returns-in-Some : goal.returns-in-Some
returns-in-Some c = rw (c.in-Some.ensures, end_step-last) c.close_step.ensures

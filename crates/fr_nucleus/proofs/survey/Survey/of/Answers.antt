use Rattle.std.proofs.Common.{sym, ◌∙◌}
use Rattle.fr_nucleus.proofs.SurveyLaws.{classes_of-stable, classes_of-refined}
use Rattle.fr_nucleus.proofs.survey.Survey.of.Goals as goal

pub returns-in-Some : goal.returns-in-Some
returns-in-Some c = let h = rw c.in-Some.is at c.stable_classes.ensures in h.1 ∙ sym (classes_of-stable c.args.self.now h.0)

pub returns-in-None : goal.returns-in-None
returns-in-None c = let h = rw c.in-None.is at c.stable_classes.ensures in c.deref.ensures.value ∙ sym (classes_of-refined c.args.self.now h)

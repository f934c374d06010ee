use Rattle.std.proofs.Common.{sym, subst}
use Rattle.fr_classes.specs.Classes.{AreClasses}
use Rattle.fr_nucleus.specs.declared.survey.Survey.{Survey}
use Rattle.fr_nucleus.proofs.SurveyLaws.{classes_of-stable, classes_of-refined}
use Rattle.fr_nucleus.proofs.survey.Survey.refine.Goals as goal

pub returns-in-Some-clause-classes : goal.returns-in-Some-clause-classes
returns-in-Some-clause-classes c =
    let s = c.args.self.now in
    let rows = c.args.m.now.rows in
    let h = rw c.in-Some.is at c.stable_classes.ensures in
    subst (AreClasses rows) (sym (classes_of-stable s h.0)) (subst (AreClasses rows) h.1 h.2)

pub returns-clause-classes : goal.returns-clause-classes
returns-clause-classes c =
    let s : Survey = record c.args.self.now { refined = c.in_ok-self.field-0 } in
    let h = rw c.in_default.is at c.stable_classes.ensures in
    subst (AreClasses c.args.m.now.rows) (sym (classes_of-refined s h)) c.in_ok-self.ensures

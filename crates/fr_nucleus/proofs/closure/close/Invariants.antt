use Rattle.std.proofs.Common.{◌≡◌, ◌≤◌, ◌-◌, length}
use Rattle.fr_nucleus.specs.Products.{IsProductTable}
use Rattle.fr_nucleus.specs.Numberings.{AreMembers, IsNumberingOf}
use Rattle.fr_nucleus.specs.Surveys.{IsSurvey, classes_of}
use Rattle.fr_nucleus.proofs.closure.close.Given as goal

abbrev pub invariant-loop-survey : goal.invariant-loop-survey
invariant-loop-survey l = record {
  members_over : l.members.alphabet ≡ l.sections.alphabet;
  products_over : l.products.alphabet ≡ l.sections.alphabet;
  members : AreMembers l.sections.alphabet l.sections.rows l.members.rows;
  table : IsProductTable l.members.rows l.sections.rows l.products.rows;
  survey : IsSurvey l.sections.alphabet l.products.rows l.survey;
  few : length l.members.rows ≤ l.most;
  numbers : IsNumberingOf l.sections.alphabet l.products.rows (length l.members.rows) (length l.sections.rows) l.most (classes_of l.survey) l.walk.keys;
  bound : l.walk.bound ≡ length (classes_of l.survey);
}

abbrev pub decreases-loop-survey : goal.decreases-loop-survey
decreases-loop-survey l = l.most - length l.members.rows

-- What is known of products: their classes, and which of them are reached from cycles. This project's own.
use Rattle.std.specs.Prelude.{ℕ, List, if◌then◌else◌}
use Rattle.fr_machine.specs.declared.row.Row.{Row}
use Rattle.fr_classes.specs.Growing.{IsGrowing}
use Rattle.fr_product.specs.Growing.{AreLimitsOf}
use Rattle.fr_nucleus.specs.declared.survey.Survey.{Survey}

-- what is known of these rows
pub record IsSurvey (d : ℕ) (rows : List Row) (s : Survey) : Type 0 where
  pub told : IsGrowing rows s.classes
  pub reached : AreLimitsOf d rows s.limits

-- the class of each row: what the growing classes say where these are stable, and else what they were refined to
abbrev pub classes_of : Survey → List ℕ
classes_of s = if s.classes.stable then s.classes.of.items else s.refined.items

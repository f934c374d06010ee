-- The classes that are known of products.
use Rattle.std.proofs.Common.{◌≡◌, true, false, ap}
use Rattle.std.specs.Prelude.{if◌then◌else◌}
use Rattle.fr_nucleus.specs.declared.survey.Survey.{Survey}
use Rattle.fr_nucleus.specs.Surveys.{classes_of}

pub classes_of-stable : (s : Survey) → s.classes.stable ≡ true → classes_of s ≡ s.classes.of.items
classes_of-stable s e = ap (λ b. if b then s.classes.of.items else s.refined.items) e

pub classes_of-refined : (s : Survey) → s.classes.stable ≡ false → classes_of s ≡ s.refined.items
classes_of-refined s e = ap (λ b. if b then s.classes.of.items else s.refined.items) e

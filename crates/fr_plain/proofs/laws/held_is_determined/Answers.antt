use Rattle.fr_plain.proofs.HeldLaws.{alike_steps_refl, holds_any_order, holds_once}
use Rattle.fr_plain.proofs.laws.held_is_determined.Goals as goal

pub returns : goal.returns
returns c = record {
  one_number = λ d steps m n. holds_once d steps steps m n (alike_steps_refl steps);
  any_order = holds_any_order;
}

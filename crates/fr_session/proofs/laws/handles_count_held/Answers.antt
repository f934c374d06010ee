use Rattle.fr_session.proofs.HeldLaws.{knows_nothing, knows_more, knows_any_order, handles_held}
use Rattle.fr_session.proofs.laws.handles_count_held.Goals as goal

pub returns : goal.returns
returns c = record {
  begins = knows_nothing;
  goes_on = knows_more;
  any_order = knows_any_order;
  counts = λ d known steps count are k n. handles_held d known are steps count k n;
}

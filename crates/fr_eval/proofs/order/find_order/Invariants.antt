use Rattle.std.proofs.Common.{◌+◌, ◌*◌, ◌≤◌}
use Rattle.fr_model.specs.Terms.{Term}
use Rattle.fr_store.specs.Store.{IsKnown, Stands, Keeps, Continues}
use Rattle.fr_eval.proofs.OrderLaws.{IsAtPower}
use Rattle.fr_eval.proofs.order.find_order.Given as goal

abbrev pub invariant-loop-k : goal.invariant-loop-k
invariant-loop-k g l = record {
  known : IsKnown (g.S.Store.view.known l.store) l.power;
  base : IsKnown (g.S.Store.view.known l.store) l.h;
  keeps : Keeps (g.S.Store.view.known l.fn.store) (g.S.Store.view.known l.store);
  continues : Continues g.S.Store.view l.fn.store l.store;
  charged : l.charge ≤ l.fn.charge + 1024 * l.k;
  at : (t : Term) → Stands g.S.Store.view l.fn.store l.fn.h t → IsAtPower g.S.Store.view (g.S.Store.view.alphabet l.fn.store) t l.fn.store l.store l.fn.charge l.charge l.k l.power;
}

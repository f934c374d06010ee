use Rattle.std.proofs.Common.{◌+◌, ◌*◌, ◌≤◌, map, take}
use Rattle.fr_nucleus.specs.Elements.{elements_of}
use Rattle.fr_store.specs.Store.{Keeps, Continues}
use Rattle.fr_plain.specs.Steps.{Listed}
use Rattle.fr_expr.specs.Evaluation.{Makes}
use Rattle.fr_eval.proofs.nucleus.enter_members.Given as goal

abbrev pub invariant-loop-m : goal.invariant-loop-m
invariant-loop-m g l = record {
  keeps : Keeps (g.S.Store.view.known l.fn.store) (g.S.Store.view.known l.store);
  continues : Continues g.S.Store.view l.fn.store l.store;
  charged : l.charge ≤ l.fn.charge + 1024 * l.m-index;
  makes : Makes g.S.Store.view (g.S.Store.view.alphabet l.fn.store) l.fn.store l.store l.fn.charge l.charge (map Listed (elements_of (take l.m-index l.members)));
}

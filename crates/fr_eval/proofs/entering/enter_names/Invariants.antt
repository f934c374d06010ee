use Rattle.std.proofs.Common.{◌≡◌, ◌≤◌, ◌+◌, ◌*◌, length}
use Rattle.fr_plain.specs.Outcomes.{name_steps}
use Rattle.fr_expr.specs.Evaluation.{Makes}
use Rattle.fr_eval.specs.Entering.{AreHandlesFrom}
use Rattle.fr_eval.proofs.entering.enter_names.Given as goal

abbrev pub invariant-loop-name : goal.invariant-loop-name
invariant-loop-name g l = record {
  makes : Makes g.S.Store.view (g.S.Store.view.alphabet l.fn.store) l.fn.store l.store l.fn.charge l.charge (name_steps l.elements.system l.name);
  count : length l.handles.items ≡ l.name;
  handles : AreHandlesFrom (g.S.Store.view.alphabet l.fn.store) (g.S.Store.view.known l.store) l.elements.system 0 l.handles.items;
  most : l.charge ≤ l.fn.charge + 1024 * l.name;
}

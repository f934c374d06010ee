use Rattle.std.proofs.Common.{◌≡◌, ◌+◌, ◌*◌, ◌≤◌, ◌^◌, length, take}
use Rattle.std.specs.List.{All}
use Rattle.fr_syntax.specs.Sizes.{exprs_size}
use Rattle.fr_store.specs.Store.{IsKnown, Keeps, Continues}
use Rattle.fr_plain.specs.Scopes.{Scope}
use Rattle.fr_plain.specs.Expansions.{expansions, steps_of_all, values_of_all}
use Rattle.fr_expr.specs.Evaluation.{Makes}
use Rattle.fr_expr.specs.Names.{AreNames}
use Rattle.fr_expr.specs.Tables.{names_in}
use Rattle.fr_eval.specs.Generators.{StandForAll}
use Rattle.fr_eval.proofs.answers.eval_all.Given as goal

abbrev pub invariant-loop-e : goal.invariant-loop-e
invariant-loop-e g l = record {
  known : All (IsKnown (g.S.Store.view.known l.store)) l.handles.items;
  count : length l.handles.items ≡ l.e-index;
  keeps : Keeps (g.S.Store.view.known l.fn.store) (g.S.Store.view.known l.store);
  continues : Continues g.S.Store.view l.fn.store l.store;
  charged : l.charge ≤ l.fn.charge + 2 ^ 44 * exprs_size (take l.e-index l.es);
  stand : (scope : Scope) → AreNames (g.S.Store.view.alphabet l.fn.store) (g.S.Store.view.known l.fn.store) (names_in l.env) l.line scope
      → StandForAll (g.S.Store.view.alphabet l.fn.store) (g.S.Store.view.known l.store) l.handles.items (values_of_all (expansions scope (take l.e-index l.es)));
  makes : (scope : Scope) → AreNames (g.S.Store.view.alphabet l.fn.store) (g.S.Store.view.known l.fn.store) (names_in l.env) l.line scope
      → Makes g.S.Store.view (g.S.Store.view.alphabet l.fn.store) l.fn.store l.store l.fn.charge l.charge (steps_of_all (expansions scope (take l.e-index l.es)));
}

use Rattle.std.proofs.Common.{◌+◌, ◌*◌, ◌≤◌, ◌^◌, Ok, take, map, sum}
use Rattle.fr_syntax.specs.Sizes.{expr_size, factor_size, atom_size, op_size}
use Rattle.fr_store.specs.Store.{IsKnown, Keeps, Continues}
use Rattle.fr_plain.specs.Scopes.{Scope}
use Rattle.fr_plain.specs.Expansions.{product_of_all, operations, factor_expansion, atom_expansion, op_expansion}
use Rattle.fr_syntax.specs.declared.tree.Factor.{out-Factor}
use Rattle.fr_expr.specs.Evaluation.{Evaluates}
use Rattle.fr_expr.specs.Names.{AreNames}
use Rattle.fr_expr.specs.Tables.{names_in}
use Rattle.fr_expr.proofs.expression.+expression.Given as goal

abbrev pub decreases-apply : goal.decreases-apply
decreases-apply g l = 3 * op_size l.op.now

abbrev pub decreases-eval_atom : goal.decreases-eval_atom
decreases-eval_atom g l = 3 * atom_size l.a.now

abbrev pub decreases-eval_expr : goal.decreases-eval_expr
decreases-eval_expr g l = 3 * expr_size l.e.now + 2

abbrev pub decreases-eval_factor : goal.decreases-eval_factor
decreases-eval_factor g l = 3 * factor_size l.f.now + 1

abbrev pub invariant-eval_expr-loop-i : goal.invariant-eval_expr-loop-i
invariant-eval_expr-loop-i g l = record {
  known : IsKnown (g.S.Store.view.known l.store) l.value;
  keeps : Keeps (g.S.Store.view.known l.fn.store) (g.S.Store.view.known l.store);
  continues : Continues g.S.Store.view l.fn.store l.store;
  most : l.charge + 1024 ≤ l.fn.charge + 2 ^ 44 * sum (map factor_size (take l.i l.factors));
  evaluates : (scope : Scope) → AreNames (g.S.Store.view.alphabet l.fn.store) (g.S.Store.view.known l.fn.store) (names_in l.env) l.line scope
      → Evaluates g.S.Store.view (g.S.Store.view.alphabet l.fn.store) l.fn.store l.store l.fn.charge l.charge (product_of_all (map (factor_expansion scope) (take l.i l.factors))) (Ok l.value);
}

abbrev pub invariant-eval_factor-loop-op : goal.invariant-eval_factor-loop-op
invariant-eval_factor-loop-op g l = record {
  known : IsKnown (g.S.Store.view.known l.store) l.value;
  keeps : Keeps (g.S.Store.view.known l.fn.store) (g.S.Store.view.known l.store);
  continues : Continues g.S.Store.view l.fn.store l.store;
  most : l.charge + 1024 ≤ l.fn.charge + 2 ^ 44 * (atom_size (out-Factor l.f).atom + sum (map op_size (take l.op-index l.op-items)));
  evaluates : (scope : Scope) → AreNames (g.S.Store.view.alphabet l.fn.store) (g.S.Store.view.known l.fn.store) (names_in l.env) l.line scope
      → Evaluates g.S.Store.view (g.S.Store.view.alphabet l.fn.store) l.fn.store l.store l.fn.charge l.charge
      (operations (atom_expansion scope (out-Factor l.f).atom) (map (op_expansion scope) (take l.op-index l.op-items))) (Ok l.value);
}

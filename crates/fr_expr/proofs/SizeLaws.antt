-- The size of an expression, by its parts.
use Rattle.std.proofs.Common.{ℕ, ◌≡◌, ◌+◌, Bool, List, map, sum, sym, ◌∙◌, ap}
use Rattle.fr_syntax.specs.declared.tree.Expr.{Expr, out-Expr, fold_out-Expr}
use Rattle.fr_syntax.specs.declared.tree.Factor.{Factor, out-Factor, fold_out-Factor}
use Rattle.fr_syntax.specs.declared.tree.Atom.{Atom, fold-roll-Atom}
use Rattle.fr_syntax.specs.declared.tree.Atom.TheVariants as a
use Rattle.fr_syntax.specs.declared.tree.Atom.TheOpen as layer
use Rattle.fr_syntax.specs.declared.tree.Op.{Op, fold-roll-Op}
use Rattle.fr_syntax.specs.declared.tree.Op.TheVariants as o
use Rattle.fr_syntax.specs.Sizes.{atom_layer_size, op_layer_size, expr_layer_size, factor_layer_size, expr_size, factor_size, atom_size, op_size}

pub expr_size-out : (e : Expr) → expr_size e ≡ sum (map factor_size (out-Expr e).factors)
unfolding expr_size factor_size
expr_size-out e = fold_out-Expr ℕ ℕ ℕ ℕ atom_layer_size op_layer_size expr_layer_size factor_layer_size e

pub factor_size-out : (f : Factor) → factor_size f ≡ atom_size (out-Factor f).atom + sum (map op_size (out-Factor f).ops)
unfolding factor_size atom_size op_size
factor_size-out f = fold_out-Factor ℕ ℕ ℕ ℕ atom_layer_size op_layer_size expr_layer_size factor_layer_size f

pub atom_size-One : atom_size a.One ≡ 1
unfolding atom_size
atom_size-One = ap atom_size (sym a.rolls-One) ∙ fold-roll-Atom ℕ ℕ ℕ ℕ atom_layer_size op_layer_size expr_layer_size factor_layer_size layer.One

pub atom_size-Named : (name : List ℕ) → atom_size (a.Named name) ≡ 1
unfolding atom_size
atom_size-Named name = ap atom_size (sym (a.rolls-Named name)) ∙ fold-roll-Atom ℕ ℕ ℕ ℕ atom_layer_size op_layer_size expr_layer_size factor_layer_size (layer.Named name)

pub atom_size-Paren : (e : Expr) → atom_size (a.Paren e) ≡ 1 + expr_size e
unfolding atom_size expr_size
atom_size-Paren e = ap atom_size (sym (a.rolls-Paren e)) ∙ fold-roll-Atom ℕ ℕ ℕ ℕ atom_layer_size op_layer_size expr_layer_size factor_layer_size (layer.Paren e)

pub atom_size-Comm : (left right : Expr) → atom_size (a.Comm left right) ≡ 1 + (expr_size left + expr_size right)
unfolding atom_size expr_size
atom_size-Comm left right =
    ap atom_size (sym (a.rolls-Comm left right)) ∙ fold-roll-Atom ℕ ℕ ℕ ℕ atom_layer_size op_layer_size expr_layer_size factor_layer_size (layer.Comm left right)

pub op_size-Power : (negative : Bool) (k : ℕ) → op_size (o.Power negative k) ≡ 1
unfolding op_size
op_size-Power negative k = ap op_size (sym (o.rolls-Power negative k)) ∙ fold-roll-Op ℕ ℕ ℕ ℕ atom_layer_size op_layer_size expr_layer_size factor_layer_size (layer.Power negative k)

pub op_size-Conj : (atom : Atom) → op_size (o.Conj atom) ≡ 1 + atom_size atom
unfolding op_size atom_size
op_size-Conj atom = ap op_size (sym (o.rolls-Conj atom)) ∙ fold-roll-Op ℕ ℕ ℕ ℕ atom_layer_size op_layer_size expr_layer_size factor_layer_size (layer.Conj atom)

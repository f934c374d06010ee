-- What an expression stands for, by its parts.
use Rattle.std.proofs.Common.{ℕ, ◌≡◌, Bool, List, map, sym, ◌∙◌, ap}
use Rattle.fr_model.specs.Terms.{Term}
use Rattle.fr_syntax.specs.declared.tree.Expr.{Expr, out-Expr, fold_out-Expr}
use Rattle.fr_syntax.specs.declared.tree.Factor.{Factor, out-Factor, fold_out-Factor}
use Rattle.fr_syntax.specs.declared.tree.Atom.{Atom, fold-roll-Atom}
use Rattle.fr_syntax.specs.declared.tree.Atom.TheVariants as a
use Rattle.fr_syntax.specs.declared.tree.Atom.TheOpen as layer
use Rattle.fr_syntax.specs.declared.tree.Op.{Op, fold-roll-Op}
use Rattle.fr_syntax.specs.declared.tree.Op.TheVariants as o
use Rattle.fr_plain.specs.Scopes.{Scope, bound}
use Rattle.fr_plain.specs.Steps.{Looked, Identity, Restricted}
use Rattle.fr_plain.specs.Expansions.{Expansion, step, followed_by, signed_power, conjugate_of, commutator_of, operations, product_of_all, atom_layer, op_layer, expr_layer, factor_layer, expansion, atom_expansion, op_expansion, factor_expansion}

pub expansion-out : (scope : Scope) (e : Expr) → expansion scope e ≡ product_of_all (map (factor_expansion scope) (out-Expr e).factors)
unfolding expansion factor_expansion
expansion-out scope e = fold_out-Expr Expansion (Term → Expansion) Expansion Expansion (atom_layer scope) op_layer expr_layer factor_layer e

pub factor_expansion-out : (scope : Scope) (f : Factor) → factor_expansion scope f ≡ operations (atom_expansion scope (out-Factor f).atom) (map (op_expansion scope) (out-Factor f).ops)
unfolding factor_expansion atom_expansion op_expansion
factor_expansion-out scope f = fold_out-Factor Expansion (Term → Expansion) Expansion Expansion (atom_layer scope) op_layer expr_layer factor_layer f

pub atom_expansion-One : (scope : Scope) → atom_expansion scope a.One ≡ step Identity
unfolding atom_expansion
atom_expansion-One scope = ap (atom_expansion scope) (sym a.rolls-One) ∙ fold-roll-Atom Expansion (Term → Expansion) Expansion Expansion (atom_layer scope) op_layer expr_layer factor_layer layer.One

pub atom_expansion-Named : (scope : Scope) (name : List ℕ) → atom_expansion scope (a.Named name) ≡ step (Looked (bound scope name))
unfolding atom_expansion
atom_expansion-Named scope name =
    ap (atom_expansion scope) (sym (a.rolls-Named name)) ∙ fold-roll-Atom Expansion (Term → Expansion) Expansion Expansion (atom_layer scope) op_layer expr_layer factor_layer (layer.Named name)

pub atom_expansion-Paren : (scope : Scope) (e : Expr) → atom_expansion scope (a.Paren e) ≡ expansion scope e
unfolding atom_expansion expansion
atom_expansion-Paren scope e =
    ap (atom_expansion scope) (sym (a.rolls-Paren e)) ∙ fold-roll-Atom Expansion (Term → Expansion) Expansion Expansion (atom_layer scope) op_layer expr_layer factor_layer (layer.Paren e)

pub atom_expansion-Comm : (scope : Scope) (left right : Expr) → atom_expansion scope (a.Comm left right) ≡ followed_by (expansion scope left) (λ t. followed_by (expansion scope right) (λ u. commutator_of t u))
unfolding atom_expansion expansion
atom_expansion-Comm scope left right =
    ap (atom_expansion scope) (sym (a.rolls-Comm left right)) ∙ fold-roll-Atom Expansion (Term → Expansion) Expansion Expansion (atom_layer scope) op_layer expr_layer factor_layer (layer.Comm left right)

pub op_expansion-Power : (scope : Scope) (negative : Bool) (k : ℕ) (t : Term) → op_expansion scope (o.Power negative k) t ≡ signed_power negative k t
unfolding op_expansion
op_expansion-Power scope negative k t =
    ap (λ (p : Op). op_expansion scope p t) (sym (o.rolls-Power negative k)) ∙ ap (λ (f : Term → Expansion). f t) (fold-roll-Op Expansion (Term → Expansion) Expansion Expansion (atom_layer scope) op_layer expr_layer factor_layer (layer.Power negative k))

pub op_expansion-Conj : (scope : Scope) (atom : Atom) (t : Term) → op_expansion scope (o.Conj atom) t ≡ followed_by (atom_expansion scope atom) (λ u. conjugate_of t u)
unfolding op_expansion atom_expansion
op_expansion-Conj scope atom t =
    ap (λ (p : Op). op_expansion scope p t) (sym (o.rolls-Conj atom)) ∙ ap (λ (f : Term → Expansion). f t) (fold-roll-Op Expansion (Term → Expansion) Expansion Expansion (atom_layer scope) op_layer expr_layer factor_layer (layer.Conj atom))

pub op_expansion-At : (scope : Scope) (w : List ℕ) (t : Term) → op_expansion scope (o.At w) t ≡ step (Restricted t w)
unfolding op_expansion
op_expansion-At scope w t =
    ap (λ (p : Op). op_expansion scope p t) (sym (o.rolls-At w)) ∙ ap (λ (f : Term → Expansion). f t) (fold-roll-Op Expansion (Term → Expansion) Expansion Expansion (atom_layer scope) op_layer expr_layer factor_layer (layer.At w))

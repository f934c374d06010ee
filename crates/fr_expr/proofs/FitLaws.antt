-- What fits, by its parts.
use Rattle.std.proofs.Common.{ℕ, zero, suc, ◌≡◌, ◌<◌, Bool, List, [], ◌∷◌, length, get_or, sym, ◌∙◌, ap, subst, arith}
use Rattle.fr_syntax.specs.declared.tree.Expr.{Expr, out-Expr}
use Rattle.fr_syntax.specs.declared.tree.Factor.{Factor, out-Factor}
use Rattle.fr_syntax.specs.declared.tree.Atom.{Atom, out-Atom}
use Rattle.fr_syntax.specs.declared.tree.Atom.TheVariants as a
use Rattle.fr_syntax.specs.declared.tree.Atom.TheOpen as layer
use Rattle.fr_syntax.specs.declared.tree.Atom.TheOpen.{Op-F}
use Rattle.fr_syntax.specs.declared.tree.Op.{Op, out-Op, out-roll-Op}
use Rattle.fr_syntax.specs.declared.tree.Op.TheVariants as o
use Rattle.fr_syntax.specs.Fits.{AtomLayer, FitsExpr, expr_fits, FitsFactors, no_factors, more_factors, FitsAtom, FitsAtomLayer, FitsOps, more_ops, FitsOp, power_fits, conj_fits, at_fits, atom_fits, one_fits, name_fits, paren_fits, comm_fits}

abbrev OpLayer : Type 0
OpLayer = Op-F Atom Op Expr Factor

out-Power : (negative : Bool) (k : ℕ) → ◌≡◌ {A = OpLayer} (out-Op (o.Power negative k)) (layer.Power negative k)
out-Power negative k = ap out-Op (sym (o.rolls-Power negative k)) ∙ out-roll-Op (layer.Power negative k)

out-Conj : (b : Atom) → ◌≡◌ {A = OpLayer} (out-Op (o.Conj b)) (layer.Conj b)
out-Conj b = ap out-Op (sym (o.rolls-Conj b)) ∙ out-roll-Op (layer.Conj b)

out-At : (w : List ℕ) → ◌≡◌ {A = OpLayer} (out-Op (o.At w)) (layer.At w)
out-At w = ap out-Op (sym (o.rolls-At w)) ∙ out-roll-Op (layer.At w)

conj_same : (b c : Atom) → ◌≡◌ {A = OpLayer} (layer.Conj b) (layer.Conj c) → b ≡ c
conj_same b c e = cc

power_not_conj : (negative : Bool) (k : ℕ) (c : Atom) → ◌≡◌ {A = OpLayer} (layer.Power negative k) (layer.Conj c) → ⊥
power_not_conj negative k c e = cc

at_not_conj : (w : List ℕ) (c : Atom) → ◌≡◌ {A = OpLayer} (layer.At w) (layer.Conj c) → ⊥
at_not_conj w c e = cc

pub conj-fits : (d : ℕ) (p : Op) (c : Atom) → p ≡ o.Conj c → FitsOp d p → FitsAtom d c
conj-fits d _ c e (power_fits negative k) = absurd (power_not_conj negative k c (sym (out-Power negative k) ∙ ap out-Op e ∙ out-Conj c))
conj-fits d _ c e (conj_fits b f) = subst (λ (x : Atom). FitsAtom d x) (conj_same b c (sym (out-Conj b) ∙ ap out-Op e ∙ out-Conj c)) f
conj-fits d _ c e (at_fits w f) = absurd (at_not_conj w c (sym (out-At w) ∙ ap out-Op e ∙ out-Conj c))

-- ---- expressions in brackets
layer-fits : (d : ℕ) (b : Atom) → FitsAtom d b → FitsAtomLayer d (out-Atom b)
layer-fits d b (atom_fits _ f) = f

paren_inside : (d : ℕ) (b : AtomLayer) (e : Expr) → b ≡ layer.Paren e → FitsAtomLayer d b → FitsExpr d e
paren_inside d _ e is one_fits = absurd (not_paren e is)
  where
    not_paren : (e : Expr) → ◌≡◌ {A = AtomLayer} layer.One (layer.Paren e) → ⊥
    not_paren e is = cc
paren_inside d _ e is (name_fits name) = absurd (not_paren name e is)
  where
    not_paren : (name : List ℕ) (e : Expr) → ◌≡◌ {A = AtomLayer} (layer.Named name) (layer.Paren e) → ⊥
    not_paren name e is = cc
paren_inside d _ e is (paren_fits f g) = subst (λ (x : Expr). FitsExpr d x) (same f e is) g
  where
    same : (f e : Expr) → ◌≡◌ {A = AtomLayer} (layer.Paren f) (layer.Paren e) → f ≡ e
    same f e is = cc
paren_inside d _ e is (comm_fits left right f g) = absurd (not_paren left right e is)
  where
    not_paren : (left right e : Expr) → ◌≡◌ {A = AtomLayer} (layer.Comm left right) (layer.Paren e) → ⊥
    not_paren left right e is = cc

comm_inside : (d : ℕ) (b : AtomLayer) (l r : Expr) → b ≡ layer.Comm l r → FitsAtomLayer d b → FitsExpr d l × FitsExpr d r
comm_inside d _ l r is one_fits = absurd (not_comm l r is)
  where
    not_comm : (l r : Expr) → ◌≡◌ {A = AtomLayer} layer.One (layer.Comm l r) → ⊥
    not_comm l r is = cc
comm_inside d _ l r is (name_fits name) = absurd (not_comm name l r is)
  where
    not_comm : (name : List ℕ) (l r : Expr) → ◌≡◌ {A = AtomLayer} (layer.Named name) (layer.Comm l r) → ⊥
    not_comm name l r is = cc
comm_inside d _ l r is (paren_fits e f) = absurd (not_comm e l r is)
  where
    not_comm : (e l r : Expr) → ◌≡◌ {A = AtomLayer} (layer.Paren e) (layer.Comm l r) → ⊥
    not_comm e l r is = cc
comm_inside d _ l r is (comm_fits left right f g) =
    (subst (λ (x : Expr). FitsExpr d x) (same_left left right l r is) f, subst (λ (x : Expr). FitsExpr d x) (same_right left right l r is) g)
  where
    same_left : (left right l r : Expr) → ◌≡◌ {A = AtomLayer} (layer.Comm left right) (layer.Comm l r) → left ≡ l
    same_left left right l r is = cc

    same_right : (left right l r : Expr) → ◌≡◌ {A = AtomLayer} (layer.Comm left right) (layer.Comm l r) → right ≡ r
    same_right left right l r is = cc

pub paren-fits : (d : ℕ) (b : Atom) (e : Expr) → b ≡ a.Paren e → FitsAtom d b → FitsExpr d e
paren-fits d b e is f = paren_inside d (out-Atom b) e (ap out-Atom is ∙ a.outs-Paren e) (layer-fits d b f)

pub comm-fits : (d : ℕ) (b : Atom) (l r : Expr) → b ≡ a.Comm l r → FitsAtom d b → FitsExpr d l × FitsExpr d r
comm-fits d b l r is f = comm_inside d (out-Atom b) l r (ap out-Atom is ∙ a.outs-Comm l r) (layer-fits d b f)

-- ---- factors and operations
pub factor_atom-fits : (d : ℕ) (f : Factor) → FitsFactors d (f ∷ []) → FitsAtom d (out-Factor f).atom
factor_atom-fits d f (more_factors _ _ x y h) = x

pub factor_ops-fits : (d : ℕ) (f : Factor) → FitsFactors d (f ∷ []) → FitsOps d (out-Factor f).ops
factor_ops-fits d f (more_factors _ _ x y h) = y

pub expr_some-fits : (d : ℕ) (e : Expr) → FitsExpr d e → 0 < length (out-Expr e).factors
expr_some-fits d e (expr_fits _ some h) = some

pub expr_factors-fits : (d : ℕ) (e : Expr) → FitsExpr d e → FitsFactors d (out-Expr e).factors
expr_factors-fits d e (expr_fits _ some h) = h

pub factor_at-fits : (d : ℕ) (fs : List Factor) (i : ℕ) (z : Factor) → i < length fs → FitsFactors d fs → FitsFactors d (get_or fs i z ∷ [])
factor_at-fits d [] i z l h = absurd (omega (arith, l))
factor_at-fits d (f ∷ fs) zero z l (more_factors _ _ x y h) = more_factors f [] x y no_factors
factor_at-fits d (f ∷ fs) (suc i) z l (more_factors _ _ x y h) = factor_at-fits d fs i z (omega (arith, l)) h

pub op_at-fits : (d : ℕ) (ops : List Op) (i : ℕ) (z : Op) → i < length ops → FitsOps d ops → FitsOp d (get_or ops i z)
op_at-fits d [] i z l h = absurd (omega (arith, l))
op_at-fits d (op ∷ ops) zero z l (more_ops _ _ x h) = x
op_at-fits d (op ∷ ops) (suc i) z l (more_ops _ _ x h) = op_at-fits d ops i z (omega (arith, l)) h

-- ---- atoms with nothing inside
pub one-fits : (d : ℕ) → FitsAtom d a.One
one-fits d = atom_fits a.One (subst (λ (b : AtomLayer). FitsAtomLayer d b) (sym a.outs-One) one_fits)

pub named-fits : (d : ℕ) (name : List ℕ) → FitsAtom d (a.Named name)
named-fits d name = atom_fits (a.Named name) (subst (λ (b : AtomLayer). FitsAtomLayer d b) (sym (a.outs-Named name)) (name_fits name))

use Rattle.std.proofs.Common.{ℕ, true, ◌≡◌, ◌+◌, ◌<◌, [], ◌∷◌, List, length, map, sum, ap, sym, subst, refl, ◌∙◌, arith}
use Rattle.fr_syntax.specs.declared.tree.Expr.{Expr, roll-Expr, out-roll-Expr}
use Rattle.fr_syntax.specs.declared.tree.Factor.{Factor, roll-Factor, out-Factor, out-roll-Factor}
use Rattle.fr_syntax.specs.declared.tree.Atom.{Atom}
use Rattle.fr_syntax.specs.declared.tree.Op.TheVariants as o
use Rattle.fr_syntax.specs.Fits.{FitsExpr, expr_fits, FitsFactors, more_factors, no_factors, FitsAtom, FitsOps, more_ops, no_ops, power_fits}
use Rattle.fr_syntax.specs.Sizes.{expr_size, factor_size, atom_size, op_size}
use Rattle.fr_expr.proofs.SizeLaws.{expr_size-out, factor_size-out, op_size-Power}
use Rattle.fr_expr.proofs.tests.cube_of_inverse.Goals as goal

abbrev power : Atom → Factor
power atom = roll-Factor (record { atom = atom; ops = o.Power true 3 ∷ [] })

abbrev only : Atom → Expr
only atom = roll-Expr (record { factors = power atom ∷ [] })

only-fits : (d : ℕ) (atom : Atom) → FitsAtom d atom → FitsExpr d (only atom)
only-fits d atom h =
    let whole = out-roll-Expr (record { factors = power atom ∷ [] }) in
    let part = out-roll-Factor (record { atom = atom; ops = o.Power true 3 ∷ [] }) in
    let inside : FitsAtom d (out-Factor (power atom)).atom = subst (λ x. FitsAtom d x.atom) (sym part) h in
    let behind : FitsOps d (out-Factor (power atom)).ops = subst (λ x. FitsOps d x.ops) (sym part) (more_ops (o.Power true 3) [] (power_fits true 3) no_ops) in
    expr_fits (only atom) (subst (λ x. 0 < length x.factors) (sym whole) (omega arith)) (subst (λ x. FitsFactors d x.factors) (sym whole) (more_factors (power atom) [] inside behind no_factors))

only-size : (atom : Atom) → expr_size (only atom) ≡ atom_size atom + 1
only-size atom =
    let whole = out-roll-Expr (record { factors = power atom ∷ [] }) in
    let part = out-roll-Factor (record { atom = atom; ops = o.Power true 3 ∷ [] }) in
    let sums : expr_size (only atom) ≡ sum (map factor_size (power atom ∷ [])) = expr_size-out (only atom) ∙ ap (λ x. sum (map factor_size x.factors)) whole in
    let parts : factor_size (power atom) ≡ atom_size atom + sum (map op_size (o.Power true 3 ∷ [])) = factor_size-out (power atom) ∙ ap (λ x. atom_size x.atom + sum (map op_size x.ops)) part in
    omega (arith, sums, parts, op_size-Power true 3)

pub returns-clause-fits : goal.returns-clause-fits
returns-clause-fits c = λ d h.
    let ops : c.from_vec.result ≡ o.Power true 3 ∷ [] = c.from_vec.ensures ∙ (c.in_ok-push.ensures.items ∙ rw c.new-ops.ensures.items refl) in
    let same : c.from_vec-2.result ≡ power c.args.atom ∷ [] = c.from_vec-2.ensures ∙ (c.in_ok-push-2.ensures.items ∙ rw (c.new-factors.ensures.items, ops) refl) in
    subst (λ (fs : List Factor). FitsExpr d (roll-Expr (record { factors = fs }))) (sym same) (only-fits d c.args.atom h)

pub returns-clause-size : goal.returns-clause-size
returns-clause-size c =
    let ops : c.from_vec.result ≡ o.Power true 3 ∷ [] = c.from_vec.ensures ∙ (c.in_ok-push.ensures.items ∙ rw c.new-ops.ensures.items refl) in
    let same : c.from_vec-2.result ≡ power c.args.atom ∷ [] = c.from_vec-2.ensures ∙ (c.in_ok-push-2.ensures.items ∙ rw (c.new-factors.ensures.items, ops) refl) in
    subst (λ (fs : List Factor). expr_size (roll-Expr (record { factors = fs })) ≡ atom_size c.args.atom + 1) (sym same) (only-size c.args.atom)

use Rattle.std.proofs.Common.{rules, ℕ, [], ◌∷◌, ◌≡◌, ◌+◌, ◌<◌, ◌≤◌, length, List, take, map, sum, get_or}
use Rattle.fr_syntax.specs.Fits.{FitsExpr, FitsFactors, FitsOp}
use Rattle.fr_syntax.specs.Sizes.{expr_size, factor_size, atom_size, op_size}
use Rattle.fr_model.specs.Terms.{Section}
use Rattle.fr_store.specs.Store.{StandsForTerm}
use Rattle.fr_plain.specs.Expansions.{expansion, factor_expansion, atom_expansion, op_expansion}
use Rattle.fr_script.specs.declared.fault.LineFault.TheVariants as faults
use Rattle.fr_expr.specs.declared.fault.EvalFault.TheVariants.{Refused}
use Rattle.fr_expr.specs.Evaluation.{Evaluates}
use Rattle.fr_expr.specs.Names.{above}
use Rattle.fr_expr.specs.Tables.{names_in}
use Rattle.std.proofs.Common.{arith, ap, sym, subst, refl, ◌∙◌, Ok, Err}
use Rattle.std.proofs.lemmas.Result.{err_from_is_err_and}
use Rattle.fr_syntax.specs.declared.tree.Op.{Op}
use Rattle.fr_syntax.specs.declared.tree.Expr.{Expr, out-Expr}
use Rattle.fr_syntax.specs.declared.tree.Factor.{Factor, out-Factor}
use Rattle.fr_plain.specs.Steps.{Restricted}
use Rattle.fr_plain.specs.Expansions.{Expansion, followed_by, conjugate_of, commutator_of, operations, product_of_all}
use Rattle.fr_store.proofs.StoreLaws.{Keeps-trans, Continues-trans, IsKnown-keeps}
use Rattle.std.proofs.lemmas.List.{take_all}
use Rattle.fr_syntax.specs.Fits.{FitsOps}
use Rattle.fr_expr.proofs.EvaluationLaws.{goes_from, stops, carries, one_read}
use Rattle.fr_plain.proofs.ExpansionLaws.{expansion-out, factor_expansion-out, atom_expansion-One, atom_expansion-Named, atom_expansion-Paren, atom_expansion-Comm, op_expansion-Power, op_expansion-Conj, op_expansion-At}
use Rattle.fr_expr.proofs.SizeLaws.{expr_size-out, factor_size-out, atom_size-One, atom_size-Named, atom_size-Paren, atom_size-Comm, op_size-Power, op_size-Conj}
use Rattle.fr_expr.proofs.FitLaws.{conj-fits, paren-fits, comm-fits, factor_atom-fits, factor_ops-fits, expr_some-fits, expr_factors-fits, factor_at-fits, op_at-fits}
use Rattle.fr_expr.proofs.ScopeLaws.{names_carry, bound_keep, name_found, name_missing}
use Rattle.fr_expr.proofs.SequenceLaws.{first_factor, product_stops_in, operations_stop_in, factor_stops, factor_goes, operation_goes, sum_next, sum_within}
use Rattle.fr_expr.proofs.expression.+expression.Goals as goal

-- src/expression.rt:167:38
pub apply-signed_power-requires-clause-room : goal.apply-signed_power-requires-clause-room
apply-signed_power-requires-clause-room g t c = omega (arith, c.requires.room, ap op_size c.in-Power.is ∙ op_size-Power c.in-Power.negative c.in-Power.k)

-- src/expression.rt:169:22
pub apply-eval_atom-requires : goal.apply-eval_atom-requires
apply-eval_atom-requires g t c κs within =
    let size = ap op_size c.in-Conj.is ∙ op_size-Conj c.in-Conj.a in
    (search (rules, size), (search rules, (conj-fits (g.S.Store.view.alphabet c.args.store.now) c.args.op.now c.in-Conj.a c.in-Conj.is c.requires.fits, (c.requires.bound, omega (arith, c.requires.room, size)))))

-- src/expression.rt:169:22
pub apply-returns-in_err-by-in-Conj-clause-evaluates :
    goal.apply-returns-in_err-by-in-Conj-clause-evaluates
apply-returns-in_err-by-in-Conj-clause-evaluates g t c = λ scope u names x.
    let p = err_from_is_err_and c.from_residual.result c.from_residual.ensures.1 in
    let view = g.S.Store.view in
    let d = view.alphabet c.args.store.now in
    rw (p.1, p.2)
    (subst (λ (e : Expansion). Evaluates view d c.args.store.now c.eval_atom.new.store c.args.charge.now c.eval_atom.new.charge e (Err c.in_err-by-in-Conj.field-0.0))
    (sym (ap (λ (q : Op). op_expansion scope q u) c.in-Conj.is ∙ op_expansion-Conj scope c.in-Conj.a u))
    (stops view g.met.S.Store.kin_onward d (atom_expansion scope c.in-Conj.a) (λ v. conjugate_of u v) c.args.store.now c.eval_atom.new.store c.args.charge.now c.eval_atom.new.charge c.in_err-by-in-Conj.field-0.0 (c.in_err-by-in-Conj.ensures.evaluates scope names)))

-- src/expression.rt:169:22
pub apply-returns-in_err-by-in-Conj-clause-most : goal.apply-returns-in_err-by-in-Conj-clause-most
apply-returns-in_err-by-in-Conj-clause-most g t c = omega (arith, c.in_err-by-in-Conj.ensures.most, ap op_size c.in-Conj.is ∙ op_size-Conj c.in-Conj.a)

-- src/expression.rt:170:13
pub apply-conjugate-requires-clause-room : goal.apply-conjugate-requires-clause-room
apply-conjugate-requires-clause-room g t c = omega (arith, c.in_ok-by-in-Conj.ensures.most, c.requires.room, ap op_size c.in-Conj.is ∙ op_size-Conj c.in-Conj.a)

-- src/expression.rt:145:1
pub apply-returns-in-Power-clause-evaluates : goal.apply-returns-in-Power-clause-evaluates
apply-returns-in-Power-clause-evaluates g t c = λ scope u names x.
    let view = g.S.Store.view in
    let d = view.alphabet c.args.store.now in
    subst (λ (e : Expansion). Evaluates view d c.args.store.now c.signed_power.new.store c.args.charge.now c.signed_power.new.charge e c.signed_power.result)
    (sym (ap (λ (q : Op). op_expansion scope q u) c.in-Power.is ∙ op_expansion-Power scope c.in-Power.negative c.in-Power.k u)) (c.signed_power.ensures.evaluates u x)

-- src/expression.rt:145:1
pub apply-returns-in-Power-clause-most : goal.apply-returns-in-Power-clause-most
apply-returns-in-Power-clause-most g t c = omega (arith, c.signed_power.ensures.most, ap op_size c.in-Power.is ∙ op_size-Power c.in-Power.negative c.in-Power.k)

-- src/expression.rt:145:1
pub apply-returns-in_ok-by-in-Conj-clause-evaluates :
    goal.apply-returns-in_ok-by-in-Conj-clause-evaluates
apply-returns-in_ok-by-in-Conj-clause-evaluates g t c = λ scope u names x.
    let view = g.S.Store.view in
    let d = view.alphabet c.args.store.now in
    let mid = c.eval_atom.new.store in
    subst (λ (e : Expansion). Evaluates view d c.args.store.now c.conjugate.new.store c.args.charge.now c.conjugate.new.charge e c.conjugate.result)
    (sym (ap (λ (q : Op). op_expansion scope q u) c.in-Conj.is ∙ op_expansion-Conj scope c.in-Conj.a u))
    (goes_from view g.met.S.Store.kin_onward d (atom_expansion scope c.in-Conj.a) (λ v. conjugate_of u v) c.args.store.now mid c.conjugate.new.store c.args.charge.now c.eval_atom.new.charge c.conjugate.new.charge c.in_ok-by-in-Conj.by c.conjugate.result
    c.in_ok-by-in-Conj.ensures.continues.alphabet (c.in_ok-by-in-Conj.ensures.evaluates scope names)
    (λ h. c.conjugate.ensures.evaluates u _ (carries view c.args.store.now mid c.args.value u c.in_ok-by-in-Conj.ensures.continues c.in_ok-by-in-Conj.ensures.keeps x) h))

-- src/expression.rt:145:1
pub apply-returns-in_ok-by-in-Conj-clause-most : goal.apply-returns-in_ok-by-in-Conj-clause-most
apply-returns-in_ok-by-in-Conj-clause-most g t c = omega (arith, c.in_ok-by-in-Conj.ensures.most, c.conjugate.ensures.most, ap op_size c.in-Conj.is ∙ op_size-Conj c.in-Conj.a)

-- src/expression.rt:145:1
pub apply-returns-in-At-clause-evaluates : goal.apply-returns-in-At-clause-evaluates
apply-returns-in-At-clause-evaluates g t c = λ scope u names x.
    let view = g.S.Store.view in
    let d = view.alphabet c.args.store.now in
    subst (λ (e : Expansion). Evaluates view d c.args.store.now c.restrict.new.store c.args.charge.now c.args.charge.now e (Ok c.restrict.result))
    (sym (ap (λ (q : Op). op_expansion scope q u) c.in-At.is ∙ op_expansion-At scope c.in-At.w u))
    (one_read view g.met.S.Store.kin_onward d (Restricted u c.in-At.w) c.args.store.now c.restrict.new.store c.args.charge.now c.restrict.result c.restrict.ensures.reads
    (subst (λ (k : ℕ). StandsForTerm k (view.known c.restrict.new.store) c.restrict.result (Section u c.in-At.w)) c.restrict.ensures.reads.continues.alphabet (c.restrict.ensures.section u x)) refl)

-- ---- atoms
pub eval_atom-identity-requires : goal.eval_atom-identity-requires
eval_atom-identity-requires g t c = omega (arith, c.requires.room, ap atom_size c.in-One.is ∙ atom_size-One)

pub eval_atom-eval_expr-requires : goal.eval_atom-eval_expr-requires
eval_atom-eval_expr-requires g t c κs within =
    let size = ap atom_size c.in-Paren.is ∙ atom_size-Paren c.in-Paren.e in
    (search (rules, size), (search rules, (paren-fits (g.S.Store.view.alphabet c.args.store.now) c.args.a.now c.in-Paren.e c.in-Paren.is c.requires.fits, (c.requires.bound, omega (arith, c.requires.room, size)))))

pub eval_atom-eval_expr-requires-in-Comm : goal.eval_atom-eval_expr-requires-in-Comm
eval_atom-eval_expr-requires-in-Comm g t c κs within =
    let size = ap atom_size c.in-Comm.is ∙ atom_size-Comm c.in-Comm.left c.in-Comm.right in
    let same = ap expr_size c.get.ensures in
    let fits = comm-fits (g.S.Store.view.alphabet c.args.store.now) c.args.a.now c.in-Comm.left c.in-Comm.right c.in-Comm.is c.requires.fits in
    (omega (arith, size, same), (search rules, (subst (λ (e : Expr). FitsExpr (g.S.Store.view.alphabet c.args.store.now) e) (sym c.get.ensures) fits.0, (c.requires.bound, omega (arith, c.requires.room, size, same)))))

pub eval_atom-returns-in_err-a-in-Comm-clause-evaluates :
    goal.eval_atom-returns-in_err-a-in-Comm-clause-evaluates
eval_atom-returns-in_err-a-in-Comm-clause-evaluates g t c = λ scope names.
    let p = err_from_is_err_and c.from_residual.result c.from_residual.ensures.1 in
    let view = g.S.Store.view in
    let old = c.args.store.now in
    let new = c.eval_expr-in-Comm.new.store in
    let d = view.alphabet old in
    let fault = c.in_err-a-in-Comm.field-0.0 in
    let left = expansion scope c.in-Comm.left in
    rw (p.1, p.2)
    (subst (λ (e : Expansion). Evaluates view d old new c.args.charge.now c.eval_expr-in-Comm.new.charge e (Err fault))
    (sym (ap (atom_expansion scope) c.in-Comm.is ∙ atom_expansion-Comm scope c.in-Comm.left c.in-Comm.right))
    (stops view g.met.S.Store.kin_onward d left (λ t. followed_by (expansion scope c.in-Comm.right) (λ u. commutator_of t u)) old new c.args.charge.now c.eval_expr-in-Comm.new.charge fault
    (subst (λ (e : Expr). Evaluates view d old new c.args.charge.now c.eval_expr-in-Comm.new.charge (expansion scope e) (Err fault)) c.get.ensures (c.in_err-a-in-Comm.ensures.evaluates scope names))))

pub eval_atom-returns-in_err-a-in-Comm-clause-most :
    goal.eval_atom-returns-in_err-a-in-Comm-clause-most
eval_atom-returns-in_err-a-in-Comm-clause-most g t c =
    omega (arith, c.in_err-a-in-Comm.ensures.most, ap atom_size c.in-Comm.is ∙ atom_size-Comm c.in-Comm.left c.in-Comm.right, ap expr_size c.get.ensures)

pub eval_atom-eval_expr-requires-in-Comm-2 : goal.eval_atom-eval_expr-requires-in-Comm-2
eval_atom-eval_expr-requires-in-Comm-2 g t c κs within =
    let view = g.S.Store.view in
    let size = ap atom_size c.in-Comm.is ∙ atom_size-Comm c.in-Comm.left c.in-Comm.right in
    let same = ap expr_size c.get.ensures in
    let other = ap expr_size c.get-in-Comm.ensures in
    let fits = comm-fits (view.alphabet c.args.store.now) c.args.a.now c.in-Comm.left c.in-Comm.right c.in-Comm.is c.requires.fits in
    let first = c.in_ok-a-in-Comm.ensures in (
      omega (arith, size, other),
      (
        search rules,
        (
          subst (λ (d : ℕ). FitsExpr d c.get-in-Comm.result.now) (sym first.continues.alphabet) (subst (λ (e : Expr). FitsExpr (view.alphabet c.args.store.now) e) (sym c.get-in-Comm.ensures) fits.1),
          (bound_keep (view.known c.args.store.now) (view.known c.eval_expr-in-Comm.new.store) (names_in c.args.env.now) c.args.line first.keeps c.requires.bound, omega (arith, c.requires.room, size, same, other, first.most)),
        ),
      ),
    )

pub eval_atom-returns-in_err-b-in-Comm-clause-evaluates :
    goal.eval_atom-returns-in_err-b-in-Comm-clause-evaluates
eval_atom-returns-in_err-b-in-Comm-clause-evaluates g t c = λ scope names.
    let p = err_from_is_err_and c.from_residual-in_err-b-in-Comm.result c.from_residual-in_err-b-in-Comm.ensures.1 in
    let view = g.S.Store.view in
    let on = g.met.S.Store.kin_onward in
    let old = c.args.store.now in
    let mid = c.eval_expr-in-Comm.new.store in
    let new = c.eval_expr-in-Comm-2.new.store in
    let d = view.alphabet old in
    let fault = c.in_err-b-in-Comm.field-0.0 in
    let first = c.in_ok-a-in-Comm.ensures in
    let left = expansion scope c.in-Comm.left in
    let right = expansion scope c.in-Comm.right in
    rw (p.1, p.2)
    (subst (λ (e : Expansion). Evaluates view d old new c.args.charge.now c.eval_expr-in-Comm-2.new.charge e (Err fault))
    (sym (ap (atom_expansion scope) c.in-Comm.is ∙ atom_expansion-Comm scope c.in-Comm.left c.in-Comm.right))
    (goes_from view on d left (λ t. followed_by right (λ u. commutator_of t u)) old mid new c.args.charge.now c.eval_expr-in-Comm.new.charge c.eval_expr-in-Comm-2.new.charge c.in_ok-a-in-Comm.a (Err fault) first.continues.alphabet
    (subst (λ (e : Expr). Evaluates view d old mid c.args.charge.now c.eval_expr-in-Comm.new.charge (expansion scope e) (Ok c.in_ok-a-in-Comm.a)) c.get.ensures (first.evaluates scope names))
    (λ s. stops view on (view.alphabet mid) right (λ u. commutator_of left.value u) mid new c.eval_expr-in-Comm.new.charge c.eval_expr-in-Comm-2.new.charge fault
    (subst (λ (e : Expr). Evaluates view (view.alphabet mid) mid new c.eval_expr-in-Comm.new.charge c.eval_expr-in-Comm-2.new.charge (expansion scope e) (Err fault)) c.get-in-Comm.ensures
    (c.in_err-b-in-Comm.ensures.evaluates scope (names_carry view old mid (names_in c.args.env.now) c.args.line scope first.continues first.keeps names))))))

pub eval_atom-returns-in_err-b-in-Comm-clause-most :
    goal.eval_atom-returns-in_err-b-in-Comm-clause-most
eval_atom-returns-in_err-b-in-Comm-clause-most g t c =
    omega (arith, c.in_err-b-in-Comm.ensures.most, c.in_ok-a-in-Comm.ensures.most, ap atom_size c.in-Comm.is ∙ atom_size-Comm c.in-Comm.left c.in-Comm.right, ap expr_size c.get.ensures, ap expr_size c.get-in-Comm.ensures)

pub eval_atom-commutator-requires-clause-room : goal.eval_atom-commutator-requires-clause-room
eval_atom-commutator-requires-clause-room g t c =
    omega (arith, c.requires.room, c.in_ok-b-in-Comm.ensures.most, c.in_ok-a-in-Comm.ensures.most, ap atom_size c.in-Comm.is ∙ atom_size-Comm c.in-Comm.left c.in-Comm.right, ap expr_size c.get.ensures, ap expr_size c.get-in-Comm.ensures)

pub eval_atom-returns-in-One-clause-evaluates : goal.eval_atom-returns-in-One-clause-evaluates
eval_atom-returns-in-One-clause-evaluates g t c = λ scope names.
    let view = g.S.Store.view in
    subst (λ (e : Expansion). Evaluates view (view.alphabet c.args.store.now) c.args.store.now c.identity.new.store c.args.charge.now c.identity.new.charge e c.identity.result)
    (sym (ap (atom_expansion scope) c.in-One.is ∙ atom_expansion-One scope)) c.identity.ensures.evaluates

pub eval_atom-returns-in-One-clause-most : goal.eval_atom-returns-in-One-clause-most
eval_atom-returns-in-One-clause-most g t c = omega (arith, c.identity.ensures.most, ap atom_size c.in-One.is ∙ atom_size-One)

pub eval_atom-returns-in-Some-clause-evaluates : goal.eval_atom-returns-in-Some-clause-evaluates
eval_atom-returns-in-Some-clause-evaluates g t c = λ scope names.
    let view = g.S.Store.view in
    let old = c.args.store.now in
    subst (λ (e : Expansion). Evaluates view (view.alphabet old) old old c.args.charge.now c.args.charge.now e (Ok c.in-Some.h))
    (sym (ap (atom_expansion scope) c.in-Named.is ∙ atom_expansion-Named scope c.in-Named.name))
    (name_found view g.met.S.Store.kin_onward g.met.S.Store.kin_to_self (view.alphabet old) old c.args.charge.now (names_in c.args.env.now) c.args.line scope c.in-Named.name c.in-Some.h names
    (sym c.in-Some.is ∙ c.bound.ensures ∙ ap (λ (name : List ℕ). above c.args.line (names_in c.args.env.now name)) c.bytes.ensures))

pub eval_atom-returns-in-Some-clause-most : goal.eval_atom-returns-in-Some-clause-most
eval_atom-returns-in-Some-clause-most g t c = omega (arith, ap atom_size c.in-Named.is ∙ atom_size-Named c.in-Named.name)

pub eval_atom-returns-in-None-clause-evaluates : goal.eval_atom-returns-in-None-clause-evaluates
eval_atom-returns-in-None-clause-evaluates g t c = λ scope names.
    let view = g.S.Store.view in
    let old = c.args.store.now in
    subst (λ (e : Expansion). Evaluates view (view.alphabet old) old old c.args.charge.now c.args.charge.now e (Err (Refused faults.UnknownName)))
    (sym (ap (atom_expansion scope) c.in-Named.is ∙ atom_expansion-Named scope c.in-Named.name))
    (name_missing view g.met.S.Store.kin_onward g.met.S.Store.kin_to_self (view.alphabet old) old c.args.charge.now (names_in c.args.env.now) c.args.line scope c.in-Named.name names
    (sym c.in-None.is ∙ c.bound.ensures ∙ ap (λ (name : List ℕ). above c.args.line (names_in c.args.env.now name)) c.bytes.ensures))

pub eval_atom-returns-in-None-clause-most : goal.eval_atom-returns-in-None-clause-most
eval_atom-returns-in-None-clause-most g t c = omega (arith, ap atom_size c.in-Named.is ∙ atom_size-Named c.in-Named.name)

pub eval_atom-returns-in-Paren-clause-evaluates : goal.eval_atom-returns-in-Paren-clause-evaluates
eval_atom-returns-in-Paren-clause-evaluates g t c = λ scope names.
    let view = g.S.Store.view in
    subst (λ (e : Expansion). Evaluates view (view.alphabet c.args.store.now) c.args.store.now c.eval_expr.new.store c.args.charge.now c.eval_expr.new.charge e c.eval_expr.result)
    (sym (ap (atom_expansion scope) c.in-Paren.is ∙ atom_expansion-Paren scope c.in-Paren.e)) (c.eval_expr.ensures.evaluates scope names)

pub eval_atom-returns-in-Paren-clause-most : goal.eval_atom-returns-in-Paren-clause-most
eval_atom-returns-in-Paren-clause-most g t c = omega (arith, c.eval_expr.ensures.most, ap atom_size c.in-Paren.is ∙ atom_size-Paren c.in-Paren.e)

pub eval_atom-returns-in_ok-b-in-Comm-clause-evaluates :
    goal.eval_atom-returns-in_ok-b-in-Comm-clause-evaluates
eval_atom-returns-in_ok-b-in-Comm-clause-evaluates g t c = λ scope names.
    let view = g.S.Store.view in
    let on = g.met.S.Store.kin_onward in
    let old = c.args.store.now in
    let mid = c.eval_expr-in-Comm.new.store in
    let next = c.eval_expr-in-Comm-2.new.store in
    let new = c.commutator.new.store in
    let d = view.alphabet old in
    let first = c.in_ok-a-in-Comm.ensures in
    let second = c.in_ok-b-in-Comm.ensures in
    let left = expansion scope c.in-Comm.left in
    let right = expansion scope c.in-Comm.right in
    subst (λ (e : Expansion). Evaluates view d old new c.args.charge.now c.commutator.new.charge e c.commutator.result)
    (sym (ap (atom_expansion scope) c.in-Comm.is ∙ atom_expansion-Comm scope c.in-Comm.left c.in-Comm.right))
    (goes_from view on d left (λ t. followed_by right (λ u. commutator_of t u)) old mid new c.args.charge.now c.eval_expr-in-Comm.new.charge c.commutator.new.charge c.in_ok-a-in-Comm.a c.commutator.result first.continues.alphabet
    (subst (λ (e : Expr). Evaluates view d old mid c.args.charge.now c.eval_expr-in-Comm.new.charge (expansion scope e) (Ok c.in_ok-a-in-Comm.a)) c.get.ensures (first.evaluates scope names))
    (λ s. goes_from view on (view.alphabet mid) right (λ u. commutator_of left.value u) mid next new c.eval_expr-in-Comm.new.charge c.eval_expr-in-Comm-2.new.charge c.commutator.new.charge c.in_ok-b-in-Comm.b c.commutator.result second.continues.alphabet
    (subst (λ (e : Expr). Evaluates view (view.alphabet mid) mid next c.eval_expr-in-Comm.new.charge c.eval_expr-in-Comm-2.new.charge (expansion scope e) (Ok c.in_ok-b-in-Comm.b)) c.get-in-Comm.ensures
    (second.evaluates scope (names_carry view old mid (names_in c.args.env.now) c.args.line scope first.continues first.keeps names)))
    (λ q. c.commutator.ensures.evaluates left.value right.value (carries view mid next c.in_ok-a-in-Comm.a left.value second.continues second.keeps s) q)))

pub eval_atom-returns-in_ok-b-in-Comm-clause-most :
    goal.eval_atom-returns-in_ok-b-in-Comm-clause-most
eval_atom-returns-in_ok-b-in-Comm-clause-most g t c =
    omega (arith, c.commutator.ensures.most, c.in_ok-b-in-Comm.ensures.most, c.in_ok-a-in-Comm.ensures.most, ap atom_size c.in-Comm.is ∙ atom_size-Comm c.in-Comm.left c.in-Comm.right, ap expr_size c.get.ensures, ap expr_size c.get-in-Comm.ensures)

-- ---- expressions
pub eval_expr-eval_factor-requires : goal.eval_expr-eval_factor-requires
eval_expr-eval_factor-requires g t c κs within =
    let d = g.S.Store.view.alphabet c.args.store.now in
    let e = c.args.e.now in
    let fs = c.as_slice-factors.result.now in
    let same : fs ≡ (out-Expr e).factors = c.as_slice-factors.ensures in
    let some : 0 < length fs = subst (λ (l : List Factor). 0 < length l) (sym same) (expr_some-fits d e c.requires.fits) in
    let fits = subst (λ (l : List Factor). FitsFactors d l) (sym same) (expr_factors-fits d e c.requires.fits) in
    let f = c.index-factors-0.result in
    let is : f ≡ get_or fs 0 f = c.index-factors-0.is in
    let one : factor_size f ≤ expr_size e = omega (arith, ap factor_size is, sum_next factor_size fs 0 f some, sum_within factor_size fs 1, expr_size-out e, ap (λ (l : List Factor). sum (map factor_size l)) same) in
    (omega (arith, one), (search rules, (subst (λ (x : Factor). FitsFactors d (x ∷ [])) (sym is) (factor_at-fits d fs 0 f some fits), (c.requires.bound, omega (arith, c.requires.room, one)))))

pub eval_expr-returns-in_err-value-clause-evaluates :
    goal.eval_expr-returns-in_err-value-clause-evaluates
eval_expr-returns-in_err-value-clause-evaluates g t c = λ scope names.
    let p = err_from_is_err_and c.from_residual.result c.from_residual.ensures.1 in
    let view = g.S.Store.view in
    let old = c.args.store.now in
    let new = c.eval_factor.new.store in
    let d = view.alphabet old in
    let e = c.args.e.now in
    let fs = c.as_slice-factors.result.now in
    let same : fs ≡ (out-Expr e).factors = c.as_slice-factors.ensures in
    let some : 0 < length fs = subst (λ (l : List Factor). 0 < length l) (sym same) (expr_some-fits d e c.requires.fits) in
    let f = c.index-factors-0.result in
    let is : f ≡ get_or fs 0 f = c.index-factors-0.is in
    let fault = c.in_err-value.field-0.0 in
    rw (p.1, p.2)
    (subst (λ (q : Expansion). Evaluates view d old new c.args.charge.now c.eval_factor.new.charge q (Err fault))
    (ap (λ (l : List Factor). product_of_all (map (factor_expansion scope) l)) same ∙ sym (expansion-out scope e))
    (product_stops_in view g.met.S.Store.kin_onward d old new c.args.charge.now c.eval_factor.new.charge fault (factor_expansion scope) fs 1 (omega arith) some
    (subst (λ (q : Expansion). Evaluates view d old new c.args.charge.now c.eval_factor.new.charge q (Err fault))
    (ap (factor_expansion scope) is ∙ sym (first_factor (factor_expansion scope) fs f some)) (c.in_err-value.ensures.evaluates scope names))))

pub eval_expr-returns-in_err-value-clause-most : goal.eval_expr-returns-in_err-value-clause-most
eval_expr-returns-in_err-value-clause-most g t c =
    let d = g.S.Store.view.alphabet c.args.store.now in
    let e = c.args.e.now in
    let fs = c.as_slice-factors.result.now in
    let same : fs ≡ (out-Expr e).factors = c.as_slice-factors.ensures in
    let some : 0 < length fs = subst (λ (l : List Factor). 0 < length l) (sym same) (expr_some-fits d e c.requires.fits) in
    let f = c.index-factors-0.result in
    let is : f ≡ get_or fs 0 f = c.index-factors-0.is in
    omega (arith, c.in_err-value.ensures.most, ap factor_size is, sum_next factor_size fs 0 f some, sum_within factor_size fs 1, expr_size-out e, ap (λ (l : List Factor). sum (map factor_size l)) same)

pub eval_expr-loop-i-init : goal.eval_expr-loop-i-init
eval_expr-loop-i-init g t c =
    let view = g.S.Store.view in
    let old = c.args.store.now in
    let new = c.eval_factor.new.store in
    let d = view.alphabet old in
    let e = c.args.e.now in
    let fs = c.as_slice-factors.result.now in
    let same : fs ≡ (out-Expr e).factors = c.as_slice-factors.ensures in
    let some : 0 < length fs = subst (λ (l : List Factor). 0 < length l) (sym same) (expr_some-fits d e c.requires.fits) in
    let f = c.index-factors-0.result in
    let is : f ≡ get_or fs 0 f = c.index-factors-0.is in
    let first = c.in_ok-value.ensures in
    record {
      known = first.known;
      keeps = first.keeps;
      continues = first.continues;
      most = omega (arith, first.most, ap factor_size is, sum_next factor_size fs 0 f some);
      evaluates = λ scope names. subst (λ (q : Expansion). Evaluates view d old new c.args.charge.now c.eval_factor.new.charge q (Ok c.in_ok-value.value))
          (ap (factor_expansion scope) is ∙ sym (first_factor (factor_expansion scope) fs f some)) (first.evaluates scope names);
    }

pub eval_expr-eval_factor-requires-in-loop-i : goal.eval_expr-eval_factor-requires-in-loop-i
eval_expr-eval_factor-requires-in-loop-i g t c κs within =
    let view = g.S.Store.view in
    let old = c.args.store.now in
    let mid = c.loop-i.store in
    let d = view.alphabet old in
    let e = c.args.e.now in
    let fs = c.as_slice-factors.result.now in
    let same : fs ≡ (out-Expr e).factors = c.as_slice-factors.ensures in
    let i = c.loop-i.i in
    let l : i < length fs = c.loop-i-test.true in
    let here = c.loop-i.invariant in
    let fits = subst (λ (xs : List Factor). FitsFactors d xs) (sym same) (expr_factors-fits d e c.requires.fits) in
    let f = c.index-factors-i.result in
    let is : f ≡ get_or fs i f = c.index-factors-i.is in
    let all : expr_size e ≡ sum (map factor_size fs) = expr_size-out e ∙ ap (λ (xs : List Factor). sum (map factor_size xs)) (sym same) in
    let one : sum (map factor_size (take i fs)) + factor_size f ≤ expr_size e = omega (arith, ap factor_size is, sum_next factor_size fs i f l, sum_within factor_size fs (i + 1), all) in (
      omega (arith, one),
      (
        search rules,
        (
          subst (λ (k : ℕ). FitsFactors k (f ∷ [])) (sym here.continues.alphabet) (subst (λ (x : Factor). FitsFactors d (x ∷ [])) (sym is) (factor_at-fits d fs i f l fits)),
          (bound_keep (view.known old) (view.known mid) (names_in c.args.env.now) c.args.line here.keeps c.requires.bound, omega (arith, c.requires.room, one, here.most)),
        ),
      ),
    )

pub eval_expr-returns-in_err-next-clause-evaluates :
    goal.eval_expr-returns-in_err-next-clause-evaluates
eval_expr-returns-in_err-next-clause-evaluates g t c = λ scope names.
    let p = err_from_is_err_and c.from_residual-in_err-next.result c.from_residual-in_err-next.ensures.1 in
    let view = g.S.Store.view in
    let old = c.args.store.now in
    let mid = c.loop-i.store in
    let new = c.eval_factor-in-loop-i.new.store in
    let d = view.alphabet old in
    let e = c.args.e.now in
    let fs = c.as_slice-factors.result.now in
    let same : fs ≡ (out-Expr e).factors = c.as_slice-factors.ensures in
    let here = c.loop-i.invariant in
    let f = c.index-factors-i.result in
    let is : f ≡ get_or fs c.loop-i.i f = c.index-factors-i.is in
    let fault = c.in_err-next.field-0.0 in
    rw (p.1, p.2)
    (subst (λ (q : Expansion). Evaluates view d old new c.args.charge.now c.eval_factor-in-loop-i.new.charge q (Err fault))
    (ap (λ (l : List Factor). product_of_all (map (factor_expansion scope) l)) same ∙ sym (expansion-out scope e))
    (factor_stops view g.met.S.Store.kin_onward d old mid c.args.charge.now c.loop-i.charge c.loop-i.value here.continues.alphabet (factor_expansion scope) fs c.loop-i.i f c.loop-i.auto.i c.loop-i-test.true (here.evaluates scope names)
    new c.eval_factor-in-loop-i.new.charge fault
    (subst (λ (x : Factor). Evaluates view (view.alphabet mid) mid new c.loop-i.charge c.eval_factor-in-loop-i.new.charge (factor_expansion scope x) (Err fault)) is
    (c.in_err-next.ensures.evaluates scope (names_carry view old mid (names_in c.args.env.now) c.args.line scope here.continues here.keeps names)))))

pub eval_expr-returns-in_err-next-clause-keeps : goal.eval_expr-returns-in_err-next-clause-keeps
eval_expr-returns-in_err-next-clause-keeps g t c = Keeps-trans _ _ _ c.loop-i.invariant.keeps c.in_err-next.ensures.keeps

pub eval_expr-returns-in_err-next-clause-continues :
    goal.eval_expr-returns-in_err-next-clause-continues
eval_expr-returns-in_err-next-clause-continues g t c = Continues-trans g.S.Store.view g.met.S.Store.kin_onward _ _ _ c.loop-i.invariant.continues c.in_err-next.ensures.continues

pub eval_expr-returns-in_err-next-clause-most : goal.eval_expr-returns-in_err-next-clause-most
eval_expr-returns-in_err-next-clause-most g t c =
    let e = c.args.e.now in
    let fs = c.as_slice-factors.result.now in
    let same : fs ≡ (out-Expr e).factors = c.as_slice-factors.ensures in
    let i = c.loop-i.i in
    let f = c.index-factors-i.result in
    let is : f ≡ get_or fs i f = c.index-factors-i.is in
    let all : expr_size e ≡ sum (map factor_size fs) = expr_size-out e ∙ ap (λ (xs : List Factor). sum (map factor_size xs)) (sym same) in
    omega (arith, c.loop-i.invariant.most, c.in_err-next.ensures.most, ap factor_size is, sum_next factor_size fs i f c.loop-i-test.true, sum_within factor_size fs (i + 1), all)

pub eval_expr-multiply-requires-clause-a_known : goal.eval_expr-multiply-requires-clause-a_known
eval_expr-multiply-requires-clause-a_known g t c = IsKnown-keeps _ _ c.loop-i.value c.in_ok-next.ensures.keeps c.loop-i.invariant.known

pub eval_expr-multiply-requires-clause-room : goal.eval_expr-multiply-requires-clause-room
eval_expr-multiply-requires-clause-room g t c =
    let e = c.args.e.now in
    let fs = c.as_slice-factors.result.now in
    let same : fs ≡ (out-Expr e).factors = c.as_slice-factors.ensures in
    let i = c.loop-i.i in
    let f = c.index-factors-i.result in
    let is : f ≡ get_or fs i f = c.index-factors-i.is in
    let all : expr_size e ≡ sum (map factor_size fs) = expr_size-out e ∙ ap (λ (xs : List Factor). sum (map factor_size xs)) (sym same) in
    omega (arith, c.requires.room, c.loop-i.invariant.most, c.in_ok-next.ensures.most, ap factor_size is, sum_next factor_size fs i f c.loop-i-test.true, sum_within factor_size fs (i + 1), all)

pub eval_expr-returns-in_err-value-2-clause-evaluates :
    goal.eval_expr-returns-in_err-value-2-clause-evaluates
eval_expr-returns-in_err-value-2-clause-evaluates g t c = λ scope names.
    let p = err_from_is_err_and c.from_residual-in_err-value-2.result c.from_residual-in_err-value-2.ensures.1 in
    let view = g.S.Store.view in
    let on = g.met.S.Store.kin_onward in
    let old = c.args.store.now in
    let mid = c.loop-i.store in
    let next = c.eval_factor-in-loop-i.new.store in
    let new = c.multiply.new.store in
    let d = view.alphabet old in
    let e = c.args.e.now in
    let fs = c.as_slice-factors.result.now in
    let same : fs ≡ (out-Expr e).factors = c.as_slice-factors.ensures in
    let i = c.loop-i.i in
    let here = c.loop-i.invariant in
    let more = c.in_ok-next.ensures in
    let f = c.index-factors-i.result in
    let is : f ≡ get_or fs i f = c.index-factors-i.is in
    let l : i < length fs = c.loop-i-test.true in
    let fault = c.in_err-value-2.field-0.0 in
    rw (p.1, p.2)
    (subst (λ (q : Expansion). Evaluates view d old new c.args.charge.now c.multiply.new.charge q (Err fault))
    (ap (λ (l : List Factor). product_of_all (map (factor_expansion scope) l)) same ∙ sym (expansion-out scope e))
    (product_stops_in view on d old new c.args.charge.now c.multiply.new.charge fault (factor_expansion scope) fs (i + 1) (omega arith) (omega (arith, l))
    (factor_goes view on d old mid c.args.charge.now c.loop-i.charge c.loop-i.value here.continues.alphabet (factor_expansion scope) fs i f c.loop-i.auto.i l (here.evaluates scope names)
    next new c.eval_factor-in-loop-i.new.charge c.multiply.new.charge c.in_ok-next.next (Err fault) more.continues more.keeps
    (subst (λ (x : Factor). Evaluates view (view.alphabet mid) mid next c.loop-i.charge c.eval_factor-in-loop-i.new.charge (factor_expansion scope x) (Ok c.in_ok-next.next)) is
    (more.evaluates scope (names_carry view old mid (names_in c.args.env.now) c.args.line scope here.continues here.keeps names)))
    (λ t u x y. c.in_err-value-2.ensures.evaluates t u x y))))

pub eval_expr-returns-in_err-value-2-clause-keeps :
    goal.eval_expr-returns-in_err-value-2-clause-keeps
eval_expr-returns-in_err-value-2-clause-keeps g t c = Keeps-trans _ _ _ c.loop-i.invariant.keeps (Keeps-trans _ _ _ c.in_ok-next.ensures.keeps c.in_err-value-2.ensures.keeps)

pub eval_expr-returns-in_err-value-2-clause-continues :
    goal.eval_expr-returns-in_err-value-2-clause-continues
eval_expr-returns-in_err-value-2-clause-continues g t c =
    let view = g.S.Store.view in
    let on = g.met.S.Store.kin_onward in
    Continues-trans view on _ _ _ c.loop-i.invariant.continues (Continues-trans view on _ _ _ c.in_ok-next.ensures.continues c.in_err-value-2.ensures.continues)

pub eval_expr-returns-in_err-value-2-clause-most :
    goal.eval_expr-returns-in_err-value-2-clause-most
eval_expr-returns-in_err-value-2-clause-most g t c =
    let e = c.args.e.now in
    let fs = c.as_slice-factors.result.now in
    let same : fs ≡ (out-Expr e).factors = c.as_slice-factors.ensures in
    let i = c.loop-i.i in
    let f = c.index-factors-i.result in
    let is : f ≡ get_or fs i f = c.index-factors-i.is in
    let all : expr_size e ≡ sum (map factor_size fs) = expr_size-out e ∙ ap (λ (xs : List Factor). sum (map factor_size xs)) (sym same) in
    omega (arith, c.loop-i.invariant.most, c.in_ok-next.ensures.most, c.in_err-value-2.ensures.most, ap factor_size is, sum_next factor_size fs i f c.loop-i-test.true, sum_within factor_size fs (i + 1), all)

pub eval_expr-loop-i-preserved : goal.eval_expr-loop-i-preserved
eval_expr-loop-i-preserved g t c =
    let view = g.S.Store.view in
    let on = g.met.S.Store.kin_onward in
    let old = c.args.store.now in
    let mid = c.loop-i.store in
    let next = c.eval_factor-in-loop-i.new.store in
    let new = c.multiply.new.store in
    let d = view.alphabet old in
    let fs = c.as_slice-factors.result.now in
    let i = c.loop-i.i in
    let here = c.loop-i.invariant in
    let more = c.in_ok-next.ensures in
    let last = c.in_ok-value-2.ensures in
    let f = c.index-factors-i.result in
    let is : f ≡ get_or fs i f = c.index-factors-i.is in
    let l : i < length fs = c.loop-i-test.true in
    record {
      known = last.known;
      keeps = Keeps-trans _ _ _ here.keeps (Keeps-trans _ _ _ more.keeps last.keeps);
      continues = Continues-trans view on _ _ _ here.continues (Continues-trans view on _ _ _ more.continues last.continues);
      most = omega (arith, here.most, more.most, last.most, ap factor_size is, sum_next factor_size fs i f l);
      evaluates = λ scope names.
          factor_goes view on d old mid c.args.charge.now c.loop-i.charge c.loop-i.value here.continues.alphabet (factor_expansion scope) fs i f c.loop-i.auto.i l (here.evaluates scope names)
          next new c.eval_factor-in-loop-i.new.charge c.multiply.new.charge c.in_ok-next.next (Ok c.in_ok-value-2.value) more.continues more.keeps
          (subst (λ (x : Factor). Evaluates view (view.alphabet mid) mid next c.loop-i.charge c.eval_factor-in-loop-i.new.charge (factor_expansion scope x) (Ok c.in_ok-next.next)) is
          (more.evaluates scope (names_carry view old mid (names_in c.args.env.now) c.args.line scope here.continues here.keeps names)))
          (λ t u x y. last.evaluates t u x y);
    }

pub eval_expr-returns-clause-evaluates : goal.eval_expr-returns-clause-evaluates
eval_expr-returns-clause-evaluates g t c = λ scope names.
    let view = g.S.Store.view in
    let old = c.args.store.now in
    let new = c.loop-i.store in
    let d = view.alphabet old in
    let e = c.args.e.now in
    let fs = c.as_slice-factors.result.now in
    let same : fs ≡ (out-Expr e).factors = c.as_slice-factors.ensures in
    let whole : take c.loop-i.i fs ≡ fs = take_all c.loop-i.i fs (omega (arith, c.loop-i-test.false)) in
    subst (λ (q : Expansion). Evaluates view d old new c.args.charge.now c.loop-i.charge q (Ok c.loop-i.value))
    (ap (λ (l : List Factor). product_of_all (map (factor_expansion scope) l)) (whole ∙ same) ∙ sym (expansion-out scope e)) (c.loop-i.invariant.evaluates scope names)

pub eval_expr-returns-clause-known : goal.eval_expr-returns-clause-known
eval_expr-returns-clause-known g t c = c.loop-i.invariant.known

pub eval_expr-returns-clause-keeps : goal.eval_expr-returns-clause-keeps
eval_expr-returns-clause-keeps g t c = c.loop-i.invariant.keeps

pub eval_expr-returns-clause-continues : goal.eval_expr-returns-clause-continues
eval_expr-returns-clause-continues g t c = c.loop-i.invariant.continues

pub eval_expr-returns-clause-most : goal.eval_expr-returns-clause-most
eval_expr-returns-clause-most g t c =
    let e = c.args.e.now in
    let fs = c.as_slice-factors.result.now in
    let same : fs ≡ (out-Expr e).factors = c.as_slice-factors.ensures in
    let all : expr_size e ≡ sum (map factor_size fs) = expr_size-out e ∙ ap (λ (xs : List Factor). sum (map factor_size xs)) (sym same) in
    omega (arith, c.loop-i.invariant.most, sum_within factor_size fs c.loop-i.i, all)

-- ---- factors
pub eval_factor-eval_atom-requires : goal.eval_factor-eval_atom-requires
eval_factor-eval_atom-requires g t c κs within =
    let f = c.args.f.now in
    let size = factor_size-out f in
    (omega (arith, size), (search rules, (factor_atom-fits (g.S.Store.view.alphabet c.args.store.now) f c.requires.fits, (c.requires.bound, omega (arith, c.requires.room, size)))))

pub eval_factor-returns-in_err-value-clause-evaluates :
    goal.eval_factor-returns-in_err-value-clause-evaluates
eval_factor-returns-in_err-value-clause-evaluates g t c = λ scope names.
    let p = err_from_is_err_and c.from_residual.result c.from_residual.ensures.1 in
    let view = g.S.Store.view in
    let old = c.args.store.now in
    let new = c.eval_atom.new.store in
    let d = view.alphabet old in
    let f = c.args.f.now in
    let fault = c.in_err-value.field-0.0 in
    rw (p.1, p.2)
    (subst (λ (q : Expansion). Evaluates view d old new c.args.charge.now c.eval_atom.new.charge q (Err fault)) (sym (factor_expansion-out scope f))
    (operations_stop_in view g.met.S.Store.kin_onward d old new c.args.charge.now c.eval_atom.new.charge fault (op_expansion scope) (atom_expansion scope (out-Factor f).atom) (out-Factor f).ops 0 (c.in_err-value.ensures.evaluates scope names)))

pub eval_factor-returns-in_err-value-clause-most :
    goal.eval_factor-returns-in_err-value-clause-most
eval_factor-returns-in_err-value-clause-most g t c = omega (arith, c.in_err-value.ensures.most, factor_size-out c.args.f.now)

pub eval_factor-loop-op-init : goal.eval_factor-loop-op-init
eval_factor-loop-op-init g t c =
    let first = c.in_ok-value.ensures in
    record {
      known = first.known;
      keeps = first.keeps;
      continues = first.continues;
      most = omega (arith, first.most);
      evaluates = λ scope names. first.evaluates scope names;
    }

pub eval_factor-apply-requires : goal.eval_factor-apply-requires
eval_factor-apply-requires g t c κs within =
    let view = g.S.Store.view in
    let old = c.args.store.now in
    let mid = c.loop-op.store in
    let d = view.alphabet old in
    let f = c.args.f.now in
    let ops = c.as_slice-op-items.result.now in
    let same : ops ≡ (out-Factor f).ops = c.as_slice-op-items.ensures in
    let i = c.loop-op.op-index in
    let l : i < length ops = c.loop-op-test.true in
    let here = c.loop-op.invariant in
    let fits = subst (λ (xs : List Op). FitsOps d xs) (sym same) (factor_ops-fits d f c.requires.fits) in
    let op = c.op-item.result in
    let is : op ≡ get_or ops i op = c.op-item.is in
    let all : factor_size f ≡ atom_size (out-Factor f).atom + sum (map op_size ops) = factor_size-out f ∙ ap (λ (xs : List Op). atom_size (out-Factor f).atom + sum (map op_size xs)) (sym same) in
    let one : atom_size (out-Factor f).atom + sum (map op_size (take i ops)) + op_size op ≤ factor_size f = omega (arith, ap op_size is, sum_next op_size ops i op l, sum_within op_size ops (i + 1), all) in (
      omega (arith, one),
      (
        search rules,
        (
          subst (λ (k : ℕ). FitsOp k op) (sym here.continues.alphabet) (subst (λ (x : Op). FitsOp d x) (sym is) (op_at-fits d ops i op l fits)),
          (here.known, (bound_keep (view.known old) (view.known mid) (names_in c.args.env.now) c.args.line here.keeps c.requires.bound, omega (arith, c.requires.room, one, here.most))),
        ),
      ),
    )

pub eval_factor-returns-in_err-value-2-clause-evaluates :
    goal.eval_factor-returns-in_err-value-2-clause-evaluates
eval_factor-returns-in_err-value-2-clause-evaluates g t c = λ scope names.
    let p = err_from_is_err_and c.from_residual-in_err-value-2.result c.from_residual-in_err-value-2.ensures.1 in
    let view = g.S.Store.view in
    let on = g.met.S.Store.kin_onward in
    let old = c.args.store.now in
    let mid = c.loop-op.store in
    let new = c.apply.new.store in
    let d = view.alphabet old in
    let f = c.args.f.now in
    let ops = c.as_slice-op-items.result.now in
    let same : ops ≡ (out-Factor f).ops = c.as_slice-op-items.ensures in
    let i = c.loop-op.op-index in
    let here = c.loop-op.invariant in
    let op = c.op-item.result in
    let is : op ≡ get_or ops i op = c.op-item.is in
    let fault = c.in_err-value-2.field-0.0 in
    let atom = atom_expansion scope (out-Factor f).atom in
    rw (p.1, p.2)
    (subst (λ (q : Expansion). Evaluates view d old new c.args.charge.now c.apply.new.charge q (Err fault)) (ap (λ (l : List Op). operations atom (map (op_expansion scope) l)) same ∙ sym (factor_expansion-out scope f))
    (operations_stop_in view on d old new c.args.charge.now c.apply.new.charge fault (op_expansion scope) atom ops (i + 1)
    (operation_goes view on d old mid c.args.charge.now c.loop-op.charge c.loop-op.value here.continues.alphabet (op_expansion scope) atom ops i op c.loop-op-test.true (here.evaluates scope names) new c.apply.new.charge (Err fault)
    (λ t x. subst (λ (o : Op). Evaluates view (view.alphabet mid) mid new c.loop-op.charge c.apply.new.charge (op_expansion scope o t) (Err fault)) is
    (c.in_err-value-2.ensures.evaluates scope t (names_carry view old mid (names_in c.args.env.now) c.args.line scope here.continues here.keeps names) x)))))

pub eval_factor-returns-in_err-value-2-clause-keeps :
    goal.eval_factor-returns-in_err-value-2-clause-keeps
eval_factor-returns-in_err-value-2-clause-keeps g t c = Keeps-trans _ _ _ c.loop-op.invariant.keeps c.in_err-value-2.ensures.keeps

pub eval_factor-returns-in_err-value-2-clause-continues :
    goal.eval_factor-returns-in_err-value-2-clause-continues
eval_factor-returns-in_err-value-2-clause-continues g t c = Continues-trans g.S.Store.view g.met.S.Store.kin_onward _ _ _ c.loop-op.invariant.continues c.in_err-value-2.ensures.continues

pub eval_factor-returns-in_err-value-2-clause-most :
    goal.eval_factor-returns-in_err-value-2-clause-most
eval_factor-returns-in_err-value-2-clause-most g t c =
    let f = c.args.f.now in
    let ops = c.as_slice-op-items.result.now in
    let same : ops ≡ (out-Factor f).ops = c.as_slice-op-items.ensures in
    let i = c.loop-op.op-index in
    let op = c.op-item.result in
    let is : op ≡ get_or ops i op = c.op-item.is in
    let all : factor_size f ≡ atom_size (out-Factor f).atom + sum (map op_size ops) = factor_size-out f ∙ ap (λ (xs : List Op). atom_size (out-Factor f).atom + sum (map op_size xs)) (sym same) in
    omega (arith, c.loop-op.invariant.most, c.in_err-value-2.ensures.most, ap op_size is, sum_next op_size ops i op c.loop-op-test.true, sum_within op_size ops (i + 1), all)

pub eval_factor-loop-op-preserved : goal.eval_factor-loop-op-preserved
eval_factor-loop-op-preserved g t c =
    let view = g.S.Store.view in
    let on = g.met.S.Store.kin_onward in
    let old = c.args.store.now in
    let mid = c.loop-op.store in
    let new = c.apply.new.store in
    let d = view.alphabet old in
    let f = c.args.f.now in
    let ops = c.as_slice-op-items.result.now in
    let i = c.loop-op.op-index in
    let here = c.loop-op.invariant in
    let last = c.in_ok-value-2.ensures in
    let op = c.op-item.result in
    let is : op ≡ get_or ops i op = c.op-item.is in
    record {
      known = last.known;
      keeps = Keeps-trans _ _ _ here.keeps last.keeps;
      continues = Continues-trans view on _ _ _ here.continues last.continues;
      most = omega (arith, here.most, last.most, ap op_size is, sum_next op_size ops i op c.loop-op-test.true);
      evaluates = λ scope names.
          operation_goes view on d old mid c.args.charge.now c.loop-op.charge c.loop-op.value here.continues.alphabet (op_expansion scope) (atom_expansion scope (out-Factor f).atom) ops i op c.loop-op-test.true (here.evaluates scope names)
          new c.apply.new.charge (Ok c.in_ok-value-2.value)
          (λ t x. subst (λ (o : Op). Evaluates view (view.alphabet mid) mid new c.loop-op.charge c.apply.new.charge (op_expansion scope o t) (Ok c.in_ok-value-2.value)) is
          (last.evaluates scope t (names_carry view old mid (names_in c.args.env.now) c.args.line scope here.continues here.keeps names) x));
    }

pub eval_factor-returns-clause-evaluates : goal.eval_factor-returns-clause-evaluates
eval_factor-returns-clause-evaluates g t c = λ scope names.
    let view = g.S.Store.view in
    let old = c.args.store.now in
    let f = c.args.f.now in
    let ops = c.as_slice-op-items.result.now in
    let same : ops ≡ (out-Factor f).ops = c.as_slice-op-items.ensures in
    let whole : take c.loop-op.op-index ops ≡ ops = take_all c.loop-op.op-index ops (omega (arith, c.loop-op-test.false)) in
    subst (λ (q : Expansion). Evaluates view (view.alphabet old) old c.loop-op.store c.args.charge.now c.loop-op.charge q (Ok c.loop-op.value))
    (ap (λ (l : List Op). operations (atom_expansion scope (out-Factor f).atom) (map (op_expansion scope) l)) (whole ∙ same) ∙ sym (factor_expansion-out scope f)) (c.loop-op.invariant.evaluates scope names)

pub eval_factor-returns-clause-known : goal.eval_factor-returns-clause-known
eval_factor-returns-clause-known g t c = c.loop-op.invariant.known

pub eval_factor-returns-clause-keeps : goal.eval_factor-returns-clause-keeps
eval_factor-returns-clause-keeps g t c = c.loop-op.invariant.keeps

pub eval_factor-returns-clause-continues : goal.eval_factor-returns-clause-continues
eval_factor-returns-clause-continues g t c = c.loop-op.invariant.continues

pub eval_factor-returns-clause-most : goal.eval_factor-returns-clause-most
eval_factor-returns-clause-most g t c =
    let f = c.args.f.now in
    let ops = c.as_slice-op-items.result.now in
    let same : ops ≡ (out-Factor f).ops = c.as_slice-op-items.ensures in
    let all : factor_size f ≡ atom_size (out-Factor f).atom + sum (map op_size ops) = factor_size-out f ∙ ap (λ (xs : List Op). atom_size (out-Factor f).atom + sum (map op_size xs)) (sym same) in
    omega (arith, c.loop-op.invariant.most, sum_within op_size ops c.loop-op.op-index, all)

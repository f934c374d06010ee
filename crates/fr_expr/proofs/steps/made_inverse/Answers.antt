use Rattle.std.proofs.Common.{ℕ, length, subst, sym, ◌∙◌}
use Rattle.std.proofs.lemmas.Result.{err_from_is_err_and}
use Rattle.fr_model.specs.Terms.{Inverse, IsTerm, IsAlike}
use Rattle.fr_model.specs.Classes.{IsSize}
use Rattle.fr_machine.specs.Rows.{row_term}
use Rattle.fr_model.proofs.AlikeLaws.{alike_trans, alike_inverse}
use Rattle.fr_model.proofs.ClassLaws.{IsSize-alike}
use Rattle.fr_machine.proofs.RowLaws.{IsTerm-row_term}
use Rattle.fr_machine.proofs.MinimalLaws.{IsSize-minimal_rows}
use Rattle.fr_plain.specs.Steps.{Inverted}
use Rattle.fr_plain.specs.Expansions.{inverse_of}
use Rattle.fr_expr.specs.Evaluation.{Evaluates}
use Rattle.fr_expr.proofs.EvaluationLaws.{gives_up, after_reads}
use Rattle.fr_expr.proofs.steps.made_inverse.Goals as goal

pub returns-in_err-inverses-clause-evaluates : goal.returns-in_err-inverses-clause-evaluates
returns-in_err-inverses-clause-evaluates g c = λ t stands.
    let p = err_from_is_err_and c.from_residual-in_err-inverses.result c.from_residual-in_err-inverses.ensures.1 in
    rw (p.1, p.2)
    (gives_up g.S.Store.view g.met.S.Store.kin_onward (g.S.Store.view.alphabet c.args.store.now) (inverse_of t) c.args.store.now c.machine.new.self c.args.charge.now c.in_ok-m.ensures.reads)

pub returns-clause-evaluates : goal.returns-clause-evaluates
returns-clause-evaluates g c = λ t stands.
    let view = g.S.Store.view in
    let d = view.alphabet c.args.store.now in
    let m = c.in_ok-m.m in
    let q = c.in_ok-inverses.inverses in
    let f = c.in_ok-inverses.ensures in
    let mid = c.machine.new.self in
    let over = c.in_ok-m.ensures.alphabet in
    let least = c.machine-first.ensures.valid.machine.least in
    let first = subst (λ (k : ℕ). IsTerm k (row_term m.rows 0)) over (IsTerm-row_term m.alphabet m.rows 0 c.machine-first.ensures.valid.machine least) in
    let alike : IsAlike (row_term q.rows 0) (Inverse t) = alike_trans (f.rows 0 least) (alike_inverse d first stands.term (c.in_ok-m.ensures.alike t stands)) in
    let size = subst (λ (k : ℕ). IsSize k (Inverse t) (length q.rows)) (f.alphabet ∙ over) (IsSize-alike q.alphabet (row_term q.rows 0) (Inverse t) (length q.rows) alike (IsSize-minimal_rows q.alphabet q.rows c.machine-second.ensures.valid)) in
    let on = c.in_ok-m.ensures.reads.continues.alphabet in
    let e = c.enter.ensures.evaluates (Inverted t) (subst (λ (k : ℕ). IsTerm k t) (sym on) stands.term) alike (subst (λ (k : ℕ). IsSize k (Inverse t) (length q.rows)) (sym on) size) in
    after_reads view g.met.S.Store.kin_onward d (inverse_of t) c.args.store.now mid c.enter.new.store c.args.charge.now c.enter.new.charge c.enter.result c.in_ok-m.ensures.reads
    (subst (λ (k : ℕ). Evaluates view k mid c.enter.new.store c.args.charge.now c.enter.new.charge (inverse_of t) c.enter.result) on e)

use Rattle.std.proofs.Common.{ℕ, suc, ◌≡◌, ◌+◌, ◌∷◌, [], ◌++◌, List, take, drop, map, sym, ◌∙◌, ap, subst, arith, append_assoc, Ok, Err}
use Rattle.std.proofs.lemmas.Result.{err_from_is_err_and}
use Rattle.fr_model.proofs.AlikeLaws.{alike_refl}
use Rattle.fr_machine.specs.Rows.{row_term}
use Rattle.fr_machine.specs.Minimal.{IsMinimal}
use Rattle.fr_machine.proofs.RowLaws.{IsTerm-row_term}
use Rattle.fr_machine.proofs.MinimalLaws.{IsSize-minimal_rows}
use Rattle.fr_nucleus.specs.Elements.{element_of, elements_of}
use Rattle.fr_store.proofs.StoreLaws.{Keeps-trans, Continues-trans}
use Rattle.fr_plain.specs.Steps.{Step, Listed}
use Rattle.fr_plain.specs.Expansions.{step}
use Rattle.fr_expr.specs.Evaluation.{Makes, Evaluates}
use Rattle.fr_expr.proofs.EvaluationLaws.{Makes-trans}
use Rattle.fr_eval.proofs.ConcludingLaws.{Halts, evaluates_halts}
use Rattle.fr_eval.proofs.ListLaws.{halts_behind, halts_before}
use Rattle.fr_eval.proofs.NucleusLaws.{listed_split, listed_more, halts_makes}
use Rattle.fr_eval.proofs.nucleus.enter_members.Goals as goal

pub returns-in_err-enter-clause-makes : goal.returns-in_err-enter-clause-makes
returns-in_err-enter-clause-makes g c =
    let p = err_from_is_err_and c.from_residual.result c.from_residual.ensures.1 in
    let view = g.S.Store.view in
    let on = g.met.S.Store.kin_onward in
    let old = c.args.store.now in
    let mid = c.loop-m.store in
    let new = c.enter.new.store in
    let d = view.alphabet old in
    let ms = c.args.members.now in
    let i = c.loop-m.m-index in
    let m = c.m-item.result in
    let t = row_term m.rows 0 in
    let inv = c.loop-m.invariant in
    let over : m.alphabet ≡ view.alphabet mid = ap (λ n. n.alphabet) c.m-item.is ∙ c.requires.over i m c.loop-m-test.true ∙ sym inv.continues.alphabet in
    let minimal = subst (λ (k : ℕ). IsMinimal k m.rows) over c.machine-machine.ensures.valid in
    let fault = c.in_err-enter.field-0.0 in
    let first = map Listed (elements_of (take i ms)) in
    let rest = map Listed (elements_of (drop (suc i) ms)) in
    let entered = c.in_err-enter.ensures.evaluates (Listed t) (IsTerm-row_term (view.alphabet mid) m.rows 0 minimal.machine minimal.machine.least) (alike_refl t) (IsSize-minimal_rows (view.alphabet mid) m.rows minimal) in
    let v = subst (λ (k : ℕ). Evaluates view k mid new c.loop-m.charge c.enter.new.charge (step (Listed t)) (Err fault)) inv.continues.alphabet entered in
    let h = halts_before view on d old new c.args.charge.now c.enter.new.charge (first ++ Listed t ∷ []) rest fault
    (halts_behind view on d old mid new c.args.charge.now c.loop-m.charge c.enter.new.charge first (Listed t ∷ []) fault inv.makes (evaluates_halts view d mid new c.loop-m.charge c.enter.new.charge (step (Listed t)) fault v)) in
    let all : (first ++ Listed t ∷ []) ++ rest ≡ map Listed (elements_of ms) = append_assoc first (Listed t ∷ []) rest ∙ ap (λ n. first ++ (Listed (element_of n) ∷ rest)) c.m-item.is ∙ sym (listed_split ms i m c.loop-m-test.true) in
    rw (p.1, p.2) (halts_makes view d old new c.args.charge.now c.enter.new.charge (map Listed (elements_of ms)) fault (subst (λ (ss : List Step). Halts view d old new c.args.charge.now c.enter.new.charge ss fault) all h))

pub loop-m-preserved : goal.loop-m-preserved
loop-m-preserved g c =
    let view = g.S.Store.view in
    let on = g.met.S.Store.kin_onward in
    let old = c.args.store.now in
    let mid = c.loop-m.store in
    let new = c.enter.new.store in
    let d = view.alphabet old in
    let ms = c.args.members.now in
    let i = c.loop-m.m-index in
    let m = c.m-item.result in
    let t = row_term m.rows 0 in
    let inv = c.loop-m.invariant in
    let ok = c.in_ok-enter.ensures in
    let over : m.alphabet ≡ view.alphabet mid = ap (λ n. n.alphabet) c.m-item.is ∙ c.requires.over i m c.loop-m-test.true ∙ sym inv.continues.alphabet in
    let minimal = subst (λ (k : ℕ). IsMinimal k m.rows) over c.machine-machine.ensures.valid in
    let entered = ok.evaluates (Listed t) (IsTerm-row_term (view.alphabet mid) m.rows 0 minimal.machine minimal.machine.least) (alike_refl t) (IsSize-minimal_rows (view.alphabet mid) m.rows minimal) in
    let v = subst (λ (k : ℕ). Evaluates view k mid new c.loop-m.charge c.enter.new.charge (step (Listed t)) (Ok c.in_ok-enter.field-0)) inv.continues.alphabet entered in
    let first = map Listed (elements_of (take i ms)) in
    let next : suc i ≡ i + 1 = omega arith in
    let all : first ++ Listed t ∷ [] ≡ map Listed (elements_of (take (i + 1) ms)) = ap (λ n. first ++ Listed (element_of n) ∷ []) c.m-item.is ∙ sym (listed_more ms i m c.loop-m-test.true) ∙ ap (λ n. map Listed (elements_of (take n ms))) next in
    record {
      keeps = Keeps-trans (view.known old) (view.known mid) (view.known new) inv.keeps ok.keeps;
      continues = Continues-trans view on old mid new inv.continues ok.continues;
      charged = omega (arith, inv.charged, ok.most);
      makes = subst (λ (ss : List Step). Makes view d old new c.args.charge.now c.enter.new.charge ss) all (Makes-trans view on d old mid new c.args.charge.now c.loop-m.charge c.enter.new.charge first (Listed t ∷ []) inv.makes v.makes);
    }

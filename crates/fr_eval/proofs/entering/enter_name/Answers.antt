use Rattle.std.proofs.Common.{◌∙◌, ℕ, length, sym, ap, subst, Err}
use Rattle.fr_model.specs.Terms.{Name}
use Rattle.fr_model.specs.Classes.{HasMoreStates}
use Rattle.fr_model.specs.FreeWords.{IsClosurePassed}
use Rattle.fr_block.specs.Elements.{IsSmallest}
use Rattle.fr_plain.specs.Steps.{Defined}
use Rattle.fr_plain.specs.Expansions.{step}
use Rattle.fr_expr.specs.declared.fault.EvalFault.{EvalFault}
use Rattle.fr_expr.specs.Evaluation.{Evaluates}
use Rattle.fr_eval.proofs.EnterLaws.{most_states, name_stops}
use Rattle.fr_eval.proofs.entering.enter_name.Goals as goal

pub returns-in-Ok-clause-evaluates : goal.returns-in-Ok-clause-evaluates
returns-in-Ok-clause-evaluates g c =
    let s = c.args.elements.now.system in
    let k = c.args.name in
    let rows = c.in-Ok.machine.rows in
    let small = subst (λ (d : ℕ). IsSmallest d (Name s k) rows) c.requires.alphabet c.in-Ok.ensures.ok in
    let within = subst (λ (d : ℕ). (¬ IsClosurePassed d s k) × (¬ HasMoreStates d (Name s k) 1024)) c.requires.alphabet c.in-Ok.ensures.within in
    c.enter.ensures.evaluates (Defined s k) (c.requires.system, c.requires.name) small.alike
    (within.0, (most_states (g.S.Store.view.alphabet c.args.store.now) (Name s k) (length rows) 1024 small.size within.1, small.size))

pub returns-in-Err-clause-evaluates : goal.returns-in-Err-clause-evaluates
returns-in-Err-clause-evaluates g c =
    let view = g.S.Store.view in
    let d = view.alphabet c.args.store.now in
    let s = c.args.elements.now.system in
    let k = c.args.name in
    subst (λ (f : EvalFault). Evaluates view d c.args.store.now c.args.store.now c.args.charge.now c.args.charge.now (step (Defined s k)) (Err f)) (sym c.eval_fault.ensures)
    (name_stops view g.met.S.Store.kin_to_self g.met.S.Store.kin_onward d s k c.args.store.now c.args.charge.now c.in-Err.fault
    (λ e. subst (λ (n : ℕ). IsClosurePassed n s k) c.requires.alphabet (c.element.ensures.closure (c.in-Err.is ∙ ap Err e)))
    (λ e. subst (λ (n : ℕ). (¬ IsClosurePassed n s k) × HasMoreStates n (Name s k) 1024) c.requires.alphabet (c.element.ensures.passed (c.in-Err.is ∙ ap Err e))))

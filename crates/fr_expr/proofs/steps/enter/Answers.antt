use Rattle.std.proofs.Common.{arith, ap, length}
use Rattle.std.proofs.lemmas.Result.{err_from_is_err_and}
use Rattle.fr_machine.specs.Machine.{MachineView}
use Rattle.fr_plain.specs.Steps.{value_of}
use Rattle.fr_expr.proofs.EvaluationLaws.{found_full}
use Rattle.fr_expr.proofs.steps.enter.Goals as goal

pub returns-in_err-h-clause-evaluates : goal.returns-in_err-h-clause-evaluates
returns-in_err-h-clause-evaluates g c = λ s valid alike charged.
    let p = err_from_is_err_and c.from_residual.result c.from_residual.ensures.1 in
    rw (p.1, p.2)
    (found_full g.S.Store.view g.met.S.Store.kin_onward s _ c.args.store.now c.intern.new.self c.args.charge.now c.in_err-h.field-0.0
    (c.in_err-h.ensures.outcome (value_of s) valid alike) c.in_err-h.ensures.continues charged)

pub overflow_add-charge : goal.overflow_add-charge
overflow_add-charge g c = omega (arith, c.requires.room, ap length c.rows-states.ensures.value, c.machine.ensures.valid.small, ap (λ (m : MachineView). length m.rows) c.machine.ensures.value)

pub returns-clause-most : goal.returns-clause-most
returns-clause-most g c = omega (arith, c.machine.ensures.valid.small, ap length c.rows-states.ensures.value, ap (λ (m : MachineView). length m.rows) c.machine.ensures.value)

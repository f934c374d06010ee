use Rattle.std.proofs.Common.{sym, ◌∙◌}
use Rattle.frcalc.proofs.AnsweringLaws.{faulty_follows}
use Rattle.frcalc.proofs.answering.answer.Goals as goal

pub returns-clause-answers : goal.returns-clause-answers
returns-clause-answers g c = λ scope names.
    let view = g.S.Store.view in
    let store = c.args.store.now in
    let says = sym (c.body.ensures ∙ c.in_ok-told.ensures) ∙ c.in-Faulty.is in
    faulty_follows view g.met.S.Store.kin_to_self g.met.S.Store.kin_onward (view.alphabet store) scope c.args.item.now c.in-Faulty.fault store c.args.charge.now c.args.text.now.items c.print_fault.new.out.items says c.in_ok-print_fault-in-Faulty.ensures.ok

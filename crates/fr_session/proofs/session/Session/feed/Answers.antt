use Rattle.std.proofs.Common.{ℕ, ◌≡◌, List, ◌++◌, Err, refl, sym, ◌∙◌, ap, subst}
use Rattle.std.proofs.lemmas.Result.{err_from_is_err_and}
use Rattle.fr_expr.specs.Tables.{names_in}
use Rattle.fr_script.specs.FaultTexts.{fault_text}
use Rattle.fr_session.specs.Feeding.{Feeds}
use Rattle.fr_session.proofs.FeedLaws.{said_stops, unread_stops, faulty_replies}
use Rattle.fr_session.proofs.session.Session.feed.Goals as goal

pub returns-in_err-told-clause-feeds : goal.returns-in_err-told-clause-feeds
returns-in_err-told-clause-feeds g c = λ scope names.
    let view = g.S.Store.view in
    let store = c.args.self.now.store in
    let d = view.alphabet store in
    let p = err_from_is_err_and c.from_residual.result c.from_residual.ensures.1 in
    subst (Feeds view d scope c.args.item.now store store (names_in c.args.self.now.env)) (sym (p.1 ∙ ap Err p.2))
    (unread_stops view g.met.S.Store.kin_to_self g.met.S.Store.kin_onward d scope c.args.item.now.body store)

pub returns-in_err-end-in-Says-clause-feeds : goal.returns-in_err-end-in-Says-clause-feeds
returns-in_err-end-in-Says-clause-feeds g c = λ scope names.
    let view = g.S.Store.view in
    let old = c.args.self.now.store in
    let d = view.alphabet old in
    let new = c.evaluate.new.store in
    let after = names_in c.evaluate.new.env in
    let p = err_from_is_err_and c.from_residual-in_err-end-in-Says.result c.from_residual-in_err-end-in-Says.ensures.1 in
    let says = sym (c.body.ensures ∙ c.in_ok-told.ensures) ∙ c.in-Says.is in
    subst (Feeds view d scope c.args.item.now old new after) (sym (p.1 ∙ ap Err p.2))
    (said_stops view d scope c.args.item.now c.in-Says.statement old new c.evaluate.new.charge after c.new-text.result.items c.evaluate.new.text.items c.in_err-end-in-Says.field-0.0 says
    (c.in_err-end-in-Says.ensures.defines scope names))

pub returns-in-Faulty-clause-feeds : goal.returns-in-Faulty-clause-feeds
returns-in-Faulty-clause-feeds g c = λ scope names.
    let view = g.S.Store.view in
    let store = c.args.self.now.store in
    let says = sym (c.body.ensures ∙ c.in_ok-told.ensures) ∙ c.in-Faulty.is in
    let text = subst (λ (t : List ℕ). c.print_fault.new.out.items ≡ t ++ fault_text c.in-Faulty.fault) c.new-text.ensures.items c.in_ok-print_fault-in-Faulty.ensures.ok in
    faulty_replies view g.met.S.Store.kin_to_self g.met.S.Store.kin_onward (view.alphabet store) scope c.args.item.now c.in-Faulty.fault store (names_in c.args.self.now.env) _ says c.requires.above names text refl refl

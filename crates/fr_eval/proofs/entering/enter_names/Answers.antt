use Rattle.std.proofs.Common.{◌≡◌, ◌<◌, ◌+◌, ℕ, suc, length, ap, subst, arith}
use Rattle.std.proofs.lemmas.Result.{err_from_is_err_and}
use Rattle.std.proofs.lemmas.List.{length_push}
use Rattle.fr_block.specs.Blocks.{BlockView}
use Rattle.fr_plain.specs.Outcomes.{name_steps}
use Rattle.fr_expr.specs.Evaluation.{Makes}
use Rattle.fr_eval.proofs.EnterLaws.{one_more, handles_more, names_early, next_stops}
use Rattle.fr_eval.proofs.entering.enter_names.Goals as goal

pub returns-in_err-handle-clause-enters : goal.returns-in_err-handle-clause-enters
returns-in_err-handle-clause-enters g c =
    let p = err_from_is_err_and c.from_residual.result c.from_residual.ensures.1 in
    let view = g.S.Store.view in
    let s = c.args.elements.now.system in
    let less : c.loop-name.name < length s = omega (arith, c.loop-name-test.true, c.names-name-end.ensures.value, ap (λ (b : BlockView). length b.system) c.block.ensures) in
    rw (p.1, p.2)
    (next_stops view g.met.S.Store.kin_to_self g.met.S.Store.kin_onward (view.alphabet c.args.store.now) s c.loop-name.name c.args.store.now c.loop-name.store c.enter_name.new.store c.args.charge.now c.loop-name.charge c.enter_name.new.charge c.loop-name.handles.items c.in_err-handle.field-0.0
    c.loop-name.invariant.makes.continues.alphabet less c.loop-name.invariant.count c.loop-name.invariant.makes c.in_err-handle.ensures.evaluates)

pub returns-in_err-push_handle-clause-enters : goal.returns-in_err-push_handle-clause-enters
returns-in_err-push_handle-clause-enters g c =
    let p = err_from_is_err_and c.from_residual-in_err-push_handle.result c.from_residual-in_err-push_handle.ensures.1 in
    let view = g.S.Store.view in
    let d = view.alphabet c.args.store.now in
    let s = c.args.elements.now.system in
    let less : c.loop-name.name < length s = omega (arith, c.loop-name-test.true, c.names-name-end.ensures.value, ap (λ (b : BlockView). length b.system) c.block.ensures) in
    rw (p.1, p.2)
    (names_early view g.met.S.Store.kin_to_self g.met.S.Store.kin_onward d s (suc c.loop-name.name) c.args.store.now c.enter_name.new.store c.args.charge.now c.enter_name.new.charge (omega (arith, less))
    (one_more view g.met.S.Store.kin_to_self g.met.S.Store.kin_onward d s c.loop-name.name c.args.store.now c.loop-name.store c.enter_name.new.store c.args.charge.now c.loop-name.charge c.enter_name.new.charge c.in_ok-handle.handle
    c.loop-name.invariant.makes.continues.alphabet c.loop-name.invariant.makes c.in_ok-handle.ensures.evaluates))

pub returns-in_err-push_handle-clause-keeps : goal.returns-in_err-push_handle-clause-keeps
returns-in_err-push_handle-clause-keeps g c = λ n code known. c.enter_name.ensures.keeps n code (c.loop-name.invariant.makes.grows.keeps n code known)

pub loop-name-preserved : goal.loop-name-preserved
loop-name-preserved g c =
    let view = g.S.Store.view in
    let d = view.alphabet c.args.store.now in
    let s = c.args.elements.now.system in
    let k = c.loop-name.name in
    let hs = c.loop-name.handles.items in
    let h = c.in_ok-handle.handle in
    let next : suc k ≡ k + 1 = omega arith in
    record {
      makes = subst (λ (n : ℕ). Makes view d c.args.store.now c.enter_name.new.store c.args.charge.now c.enter_name.new.charge (name_steps s n)) next
          (one_more view g.met.S.Store.kin_to_self g.met.S.Store.kin_onward d s k c.args.store.now c.loop-name.store c.enter_name.new.store c.args.charge.now c.loop-name.charge c.enter_name.new.charge h
          c.loop-name.invariant.makes.continues.alphabet c.loop-name.invariant.makes c.in_ok-handle.ensures.evaluates);
      count = omega (arith, ap length c.in_ok-push_handle.ensures.pushed, length_push hs h, c.loop-name.invariant.count);
      handles = rw c.in_ok-push_handle.ensures.pushed
          (handles_more view g.met.S.Store.kin_to_self g.met.S.Store.kin_onward d s k c.loop-name.store c.enter_name.new.store c.loop-name.charge c.enter_name.new.charge hs h
          c.loop-name.invariant.makes.continues.alphabet c.loop-name.invariant.count c.loop-name.invariant.handles c.in_ok-handle.ensures.evaluates);
      most = omega (arith, c.in_ok-handle.ensures.most, c.loop-name.invariant.most);
    }

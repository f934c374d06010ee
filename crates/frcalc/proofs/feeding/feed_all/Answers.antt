use Rattle.std.proofs.Common.{◌+◌, refl, sym, ◌∙◌, ap, length, arith}
use Rattle.std.proofs.lemmas.Result.{err_from_is_err_and}
use Rattle.fr_expr.specs.Tables.{names_in}
use Rattle.frcalc.specs.declared.evaluation.EvaluationFault.TheVariants as fault
use Rattle.frcalc.proofs.ItemLaws.{here, fault_same}
use Rattle.frcalc.proofs.FeedingLaws.{feeding_begins, feeding_names, feeding_goes, feeding_next, feeding_passes, feeding_stops, feeding_ends}
use Rattle.frcalc.proofs.feeding.feed_all.Goals as goal

pub loop-item-init : goal.loop-item-init
loop-item-init c =
    let session = c.args.session.now in
    let r = c.requires in
    record {
      items = c.as_slice-item-items.ensures;
      feeding = feeding_begins c.args.script.now c.args.limit session.store (names_in session.env) c.new-replies.result.items r.fits r.alphabet r.capacity r.unclaimed r.unknown r.unbound c.new-replies.ensures.items;
    }

pub returns-in_err-reply-clause-passed : goal.returns-in_err-reply-clause-passed
returns-in_err-reply-clause-passed c = λ passed.
    let item = c.item-item.result in
    let w = c.loop-item.invariant in
    let at = here c.as_slice-item-items.result.now c.args.script.now.items c.loop-item.item-index item w.items (omega (arith, c.loop-item-test.true)) c.item-item.is in
    let p = err_from_is_err_and c.from_residual.result c.from_residual.ensures.1 in
    let same = fault_same p.0 fault.StatesPassed c.from_residual.result p.1 passed in
    feeding_stops item at w.feeding c.feed_item.new.session.store (names_in c.feed_item.new.session.env) c.in_err-reply.field-0.0
    (c.in_err-reply.ensures.feeds w.feeding.scope (feeding_names item at w.feeding)) c.feed_item.ensures.continues (sym p.2 ∙ same)

pub returns-then-charge-limit-clause-passed : goal.returns-then-charge-limit-clause-passed
returns-then-charge-limit-clause-passed c = λ passed.
    let item = c.item-item.result in
    let w = c.loop-item.invariant in
    let at = here c.as_slice-item-items.result.now c.args.script.now.items c.loop-item.item-index item w.items (omega (arith, c.loop-item-test.true)) c.item-item.is in
    feeding_passes item at w.feeding c.feed_item.new.session.store (names_in c.feed_item.new.session.env) c.in_ok-reply.reply (c.in_ok-reply.ensures.feeds w.feeding.scope (feeding_names item at w.feeding)) (omega (arith, c.if-charge-limit.true, c.charge_of-charge.ensures))

pub loop-item-preserved : goal.loop-item-preserved
loop-item-preserved c =
    let item = c.item-item.result in
    let w = c.loop-item.invariant in
    let at = here c.as_slice-item-items.result.now c.args.script.now.items c.loop-item.item-index item w.items (omega (arith, c.loop-item-test.true)) c.item-item.is in
    record {
      items = w.items;
      feeding = feeding_next c.push.new.self.items (c.loop-item.charge + c.charge_of-charge.result)
          (feeding_goes item at w.feeding c.feed_item.new.session.store (names_in c.feed_item.new.session.env) c.in_ok-reply.reply (c.in_ok-reply.ensures.feeds w.feeding.scope (feeding_names item at w.feeding)) c.feed_item.ensures.adds c.feed_item.ensures.keeps
          c.feed_item.ensures.continues (omega (arith, c.if-charge-limit.false, c.charge_of-charge.ensures)))
          c.in_ok-push.ensures.items (ap (λ n. c.loop-item.charge + n) c.charge_of-charge.ensures);
    }

pub returns-clause-ok : goal.returns-clause-ok
returns-clause-ok c =
    feeding_ends (record { replies = c.loop-item.replies; charge = c.loop-item.charge }) c.loop-item.invariant.feeding (omega (arith, c.loop-item-test.false, ap length c.loop-item.invariant.items)) refl refl

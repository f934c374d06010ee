use Rattle.std.proofs.Common.{◌<◌, refl, sym, ◌∙◌, ap, length, arith}
use Rattle.std.proofs.lemmas.Result.{err_from_is_err_and}
use Rattle.fr_expr.specs.Tables.{names_in}
use Rattle.fr_eval.proofs.DefineLaws.{known_none}
use Rattle.fr_store.specs.VecView.{vec_view}
use Rattle.frcalc.specs.declared.evaluation.EvaluationFault.TheVariants as fault
use Rattle.frcalc.proofs.ItemLaws.{here, fault_same}
use Rattle.frcalc.proofs.AnsweringLaws.{fed_length, answering_begins, answering_goes, answering_passes, answering_stops, answering_ends}
use Rattle.frcalc.proofs.answering.answer_all.Goals as goal

pub loop-k-init : goal.loop-k-init
loop-k-init c = record {
  items = c.as_slice-items.ensures;
  known = c.requires.known;
  answering = answering_begins c.args.script.now c.args.limit c.args.store.now (names_in c.args.env.now) c.args.fed.now c.new-text.result.items c.requires.fits c.requires.fed c.new-text.ensures.items;
}

pub returns-in_err-refused-clause-passed : goal.returns-in_err-refused-clause-passed
returns-in_err-refused-clause-passed c = λ passed.
    let script = c.args.script.now in
    let items = c.as_slice-items.result.now in
    let w = c.loop-k.invariant in
    let item = c.index-items-k.result in
    let replies = c.args.fed.now.replies.items in
    let reply = c.index.result.now in
    let before : c.loop-k.k < length items = omega (arith, c.loop-k-test.true) in
    let within : c.loop-k.k < length replies = omega (arith, before, ap length w.items, fed_length script.alphabet (vec_view.known c.args.store.now) (names_in c.args.env.now) _ script.items replies c.requires.fed.are_fed) in
    let p = err_from_is_err_and c.from_residual.result c.from_residual.ensures.1 in
    let same = fault_same p.0 fault.StatesPassed c.from_residual.result p.1 passed in
    answering_stops item (here items script.items c.loop-k.k item w.items before c.index-items-k.is) w.answering c.answer_item.new.store c.answer_item.new.text.items c.answer_item.new.charge reply c.in_err-refused.field-0.0
    (here replies replies c.loop-k.k reply refl within c.index.ensures) c.in_err-refused.ensures.tells c.answer_item.ensures.continues (sym p.2 ∙ same)

pub returns-then-charge-limit-clause-passed : goal.returns-then-charge-limit-clause-passed
returns-then-charge-limit-clause-passed c = λ passed.
    let script = c.args.script.now in
    let items = c.as_slice-items.result.now in
    let w = c.loop-k.invariant in
    let item = c.index-items-k.result in
    let replies = c.args.fed.now.replies.items in
    let reply = c.index.result.now in
    let before : c.loop-k.k < length items = omega (arith, c.loop-k-test.true) in
    let within : c.loop-k.k < length replies = omega (arith, before, ap length w.items, fed_length script.alphabet (vec_view.known c.args.store.now) (names_in c.args.env.now) _ script.items replies c.requires.fed.are_fed) in
    answering_passes item (here items script.items c.loop-k.k item w.items before c.index-items-k.is) w.answering c.answer_item.new.store c.answer_item.new.text.items c.in_ok-refused.field-0 c.answer_item.new.charge reply
    (here replies replies c.loop-k.k reply refl within c.index.ensures) c.in_ok-refused.ensures.tells (omega (arith, c.if-charge-limit.true))

pub loop-k-preserved : goal.loop-k-preserved
loop-k-preserved c =
    let script = c.args.script.now in
    let items = c.as_slice-items.result.now in
    let w = c.loop-k.invariant in
    let item = c.index-items-k.result in
    let replies = c.args.fed.now.replies.items in
    let reply = c.index.result.now in
    let names = names_in c.args.env.now in
    let before : c.loop-k.k < length items = omega (arith, c.loop-k-test.true) in
    let within : c.loop-k.k < length replies = omega (arith, before, ap length w.items, fed_length script.alphabet (vec_view.known c.args.store.now) names _ script.items replies c.requires.fed.are_fed) in
    record {
      items = w.items;
      known = known_none (vec_view.known c.loop-k.store) (vec_view.known c.answer_item.new.store) names names c.answer_item.ensures.keeps w.known (λ q. refl);
      answering = answering_goes item (here items script.items c.loop-k.k item w.items before c.index-items-k.is) w.answering c.answer_item.new.store c.answer_item.new.text.items c.in_ok-refused.field-0 c.answer_item.new.charge reply
          (here replies replies c.loop-k.k reply refl within c.index.ensures) c.in_ok-refused.ensures.tells c.answer_item.ensures.keeps c.answer_item.ensures.continues (omega (arith, c.if-charge-limit.false));
    }

pub returns-clause-ok : goal.returns-clause-ok
returns-clause-ok c =
    answering_ends (record { text = c.loop-k.text; refused = c.loop-k.refused; charge = c.loop-k.charge; census = c.census.result }) c.loop-k.invariant.answering
    (omega (arith, c.loop-k-test.false, ap length c.loop-k.invariant.items)) refl refl refl c.census.ensures.handles c.census.ensures.count

use Rattle.std.proofs.Common.{ap, ◌++◌, ◌∙◌, length, get_or, arith}
use Rattle.fr_machine.specs.Rows.{states_of}
use Rattle.fr_canon.specs.Texts.{machine_text}
use Rattle.fr_eval.proofs.RowTextLaws.{members_more}
use Rattle.fr_eval.proofs.nucleus.push_nucleus.Goals as goal

pub loop-i-preserved : goal.loop-i-preserved
loop-i-preserved c = record {
  text = members_more c.args.found.now.members c.loop-i.i c.m-item.result _ c.loop-i.out.items c.extend_from_slice-in-loop-i.new.self.items c.push_number-in-loop-i.new.out.items c.push-in-loop-i.new.self.items c.push_machine.new.out.items (omega (arith, c.loop-i-test.true, ap length c.deref-m-items.ensures.value, ap (λ n. length n.members) c.found.view_is)) c.loop-i.invariant.text
      c.in_ok-extend_from_slice-3.ensures.items c.in_ok-push_number-3.ensures c.in_ok-push-2.ensures.items
      (c.in_ok-push_machine.ensures ∙ ap (λ m. c.push-in-loop-i.new.self.items ++ machine_text (states_of m.rows)) (c.m-item.is ∙ ap (λ l. get_or l c.loop-i.i c.m-item.result) (c.deref-m-items.ensures.value ∙ ap (λ n. n.members) c.found.view_is)));
}

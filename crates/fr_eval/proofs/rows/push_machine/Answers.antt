use Rattle.std.proofs.Common.{ap, arith, refl, sym, ◌∙◌, ◌++◌, ◌∷◌, [], length, take}
use Rattle.std.specs.Prelude.{codes}
use Rattle.std.specs.Fmt.{decimal}
use Rattle.std.proofs.lemmas.List.{append-nil}
use Rattle.fr_machine.specs.Rows.{state_of, states_of}
use Rattle.fr_canon.specs.Texts.{wreath_text, states_text}
use Rattle.fr_eval.proofs.RowTextLaws.{rows_more, machine_text-pieces}
use Rattle.fr_eval.proofs.rows.push_machine.Goals as goal

pub loop-k-init : goal.loop-k-init
loop-k-init c = record {
  rows = c.rows-rows.ensures.value ∙ ap (λ m. m.rows) c.machine.ensures.value;
  text = rw (c.in_ok-push.ensures.items, c.in_ok-push_number.ensures, c.in_ok-extend_from_slice.ensures.items) (sym (append-nil _));
}

pub loop-k-preserved : goal.loop-k-preserved
loop-k-preserved c = record {
  rows = c.loop-k.invariant.rows;
  text = rows_more c.rows-rows.result.now c.loop-k.k c.index-rows-k.result _ c.loop-k.out.items c.push_number-in-loop-k.new.out.items c.extend_from_slice-in-loop-k.new.self.items c.push_wreath.new.out.items c.push-in-loop-k.new.self.items
      c.loop-k-test.true c.loop-k.invariant.text c.in_ok-push_number-2.ensures c.in_ok-extend_from_slice-2.ensures.items
      (c.in_ok-push_wreath.ensures ∙ ap (λ r. c.extend_from_slice-in-loop-k.new.self.items ++ wreath_text (state_of r)) c.index-rows-k.is) c.in_ok-push-2.ensures.items;
}

pub returns : goal.returns
returns c =
    let rows = c.rows-rows.result.now in
    let same = c.loop-k.invariant.rows in
    let header = (c.args.out.now.items ++ codes "states ") ++ decimal (length rows) in
    machine_text-pieces c.args.m.now.rows c.args.out.now.items _ _ (header ++ 10 ∷ []) c.loop-k.out.items c.loop-k.k
    (omega (arith, c.loop-k-test.false, ap length same)) refl (ap (λ r. (c.args.out.now.items ++ codes "states ") ++ decimal (length r)) same) refl
    (c.loop-k.invariant.text ∙ ap (λ r. (header ++ 10 ∷ []) ++ states_text 1 (states_of (take c.loop-k.k r))) same)

use Rattle.std.proofs.Common.{ap, sym, ◌∙◌}
use Rattle.fr_alphabet.proofs.CycleProducts.{cycles_image-cycles_of}
use Rattle.fr_alphabet.proofs.CycleTexts.{Keeps-more, Keeps-self, Keeps-trans, begun_more, begun_same, begun_all, same_cycles_text}
use Rattle.fr_alphabet.proofs.perm.Perm.push_cycles.Goals as goal
use Rattle.fr_alphabet.proofs.perm.Perm.push_cycles.Goals.{then-begins_cycle+in_ok-push_cycle, else-begins_cycle}

pub returns-in_err-push_cycle-clause-kept : goal.returns-in_err-push_cycle-clause-kept
returns-in_err-push_cycle-clause-kept c =
    (Keeps-trans c.args.out.now.items c.loop-i.out.items c.push_cycle.new.out.items (Keeps-more _ _ _ _ (Keeps-self c.args.out.now.items) c.loop-i.invariant) (record { kept = c.push_cycle.ensures.kept })).kept

pub loop-i-preserved : goal.loop-i-preserved
loop-i-preserved c = elim c.if-begins_cycle.branch [
  | then-begins_cycle+in_ok-push_cycle w ↦
      begun_more c.args.self.now c.letters-i-end.result c.loop-i.i c.args.out.now.items c.loop-i.out.items _ c.loop-i-test.true (sym c.begins_cycle.ensures ∙ w.if-begins_cycle.true) c.loop-i.invariant (ap (λ o. o.items) w.out-is ∙ w.in_ok-push_cycle.ensures.ok)
  | else-begins_cycle w ↦
      ap (λ o. o.items) w.out-is ∙ begun_same c.args.self.now c.letters-i-end.result c.loop-i.i c.args.out.now.items c.loop-i.out.items c.loop-i-test.true (sym c.begins_cycle.ensures ∙ w.if-begins_cycle.false) c.loop-i.invariant
]

pub returns-clause-ok : goal.returns-clause-ok
returns-clause-ok c = begun_all c.args.self.now c.letters-i-end.result c.loop-i.i c.args.out.now.items c.loop-i.out.items c.letters-i-end.ensures.value c.loop-i-test.false c.loop-i.invariant

pub returns-in_err-push_cycle-clause-product : goal.returns-in_err-push_cycle-clause-product
returns-in_err-push_cycle-clause-product c = λ x. cycles_image-cycles_of c.args.self.now x (rw c.letters-i-end.ensures.value at c.letters-i-end.ensures.permutes)

pub returns-clause-product : goal.returns-clause-product
returns-clause-product c = λ x. cycles_image-cycles_of c.args.self.now x (rw c.letters-i-end.ensures.value at c.letters-i-end.ensures.permutes)

pub returns-in_err-push_cycle-clause-only : goal.returns-in_err-push_cycle-clause-only
returns-in_err-push_cycle-clause-only c = λ q r e. same_cycles_text c.args.self.now q (rw c.letters-i-end.ensures.value at c.letters-i-end.ensures.permutes) r e

pub returns-clause-only : goal.returns-clause-only
returns-clause-only c = λ q r e. same_cycles_text c.args.self.now q (rw c.letters-i-end.ensures.value at c.letters-i-end.ensures.permutes) r e

use Rattle.std.proofs.Common.{ℕ, ap, sym, subst, ◌≡◌, ◌∙◌, ◌<◌, ◌+◌, get_or, length, List, arith}
use Rattle.fr_machine.specs.declared.row.Row.{Row}
use Rattle.fr_machine.specs.Rows.{IsMachine, row_at}
use Rattle.fr_nucleus.specs.Joining.{AreReduced}
use Rattle.fr_machine.proofs.RowLaws.{row_read}
use Rattle.fr_nucleus.proofs.JoiningLaws.{IsReducedPart, IsReducedPart-new, IsReducedPart-pass, IsMachine-reduced, AreReduced-from}
use Rattle.fr_nucleus.proofs.joining.reduced.Goals as goal
use Rattle.fr_nucleus.proofs.joining.reduced.Goals.{then-of-s+in_ok-push, else-of-s}

pub loop-s-preserved : goal.loop-s-preserved
loop-s-preserved c =
    let m = c.args.m.now in
    let l : c.loop-s.s < length m.rows = omega (arith, c.loop-s-test.true, ap length c.rows-row-items.ensures.value) in
    let r = c.row-item.result in
    let here : r ≡ row_at m.rows c.loop-s.s = c.row-item.is ∙ ap (λ xs. get_or xs c.loop-s.s r) c.rows-row-items.ensures.value ∙ row_read m.rows c.loop-s.s r l in
    let I : List Row → Type 0 = λ rows. IsReducedPart m.rows c.args.of.now rows (c.loop-s.s + 1) in
    elim c.if-of-s.branch [
      | then-of-s+in_ok-push w ↦
          subst I (sym (ap (λ v. v.items) w.rows-is))
          (IsReducedPart-new m.rows c.args.of.now c.loop-s.rows.items w.push.new.self.items c.loop-s.s r w.row_of_class.result c.loop-s.invariant l c.requires.count (omega (arith, w.if-of-s.true, c.len.ensures)) here w.row_of_class.ensures w.in_ok-push.ensures.items)
      | else-of-s w ↦
          subst I (sym (ap (λ v. v.items) w.rows-is))
          (IsReducedPart-pass m.rows c.args.of.now c.loop-s.rows.items c.loop-s.s c.loop-s.invariant l c.requires.count (λ e. omega (arith, w.if-of-s.false, c.len.ensures, e)))
    ]

pub from_rows-requires : goal.from_rows-requires
from_rows-requires c =
    let m = c.args.m.now in
    let all : c.loop-s.s ≡ length m.rows = omega (arith, c.loop-s-test.false, c.loop-s.auto.s-end, ap length c.rows-row-items.ensures.value) in
    let J : ℕ → Type 0 = λ i. IsReducedPart m.rows c.args.of.now c.loop-s.rows.items i in
    let Q : ℕ → Type 0 = λ d. IsMachine d c.loop-s.rows.items in
    subst Q (sym c.alphabet.ensures.value) (IsMachine-reduced m.alphabet m.rows c.args.of.now c.loop-s.rows.items c.alphabet.ensures.valid c.requires (subst J all c.loop-s.invariant))

pub returns-clause-rows : goal.returns-clause-rows
returns-clause-rows c =
    let m = c.args.m.now in
    let all : c.loop-s.s ≡ length m.rows = omega (arith, c.loop-s-test.false, c.loop-s.auto.s-end, ap length c.rows-row-items.ensures.value) in
    let J : ℕ → Type 0 = λ i. IsReducedPart m.rows c.args.of.now c.loop-s.rows.items i in
    let G : List Row → Type 0 = λ rows. AreReduced m.rows c.args.of.now rows in
    subst G (sym (ap (λ q. q.rows) c.from_rows.ensures)) (AreReduced-from m.alphabet m.rows c.args.of.now c.loop-s.rows.items c.alphabet.ensures.valid c.requires (subst J all c.loop-s.invariant))

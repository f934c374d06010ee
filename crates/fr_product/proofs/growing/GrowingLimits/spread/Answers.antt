use Rattle.std.proofs.Common.{ℕ, ◌≡◌, ◌<◌, ◌+◌, Bool, false, List, [], length, get_or, sym, ap, subst, ◌∙◌, arith}
use Rattle.std.proofs.lemmas.List.{get_or_default}
use Rattle.fr_machine.specs.Rows.{states_of}
use Rattle.fr_machine.proofs.RowLaws.{IsAutomaton-states_of, length-states_of}
use Rattle.fr_product.specs.Spreading.{IsSpreading}
use Rattle.fr_product.proofs.SpreadLaws.{IsSpreading-next, IsSpreading-pass, IsSpreading-end}
use Rattle.fr_product.proofs.growing.GrowingLimits.spread.Goals as goal
use Rattle.fr_product.proofs.growing.GrowingLimits.spread.Goals.{then-index+in_ok-mark_nexts, else-index}

pub loop-s-init : goal.loop-s-init
loop-s-init c =
    let P : List ℕ → Type 0 = λ xs. IsSpreading c.args.m.now.alphabet (states_of c.args.m.now.rows) c.args.self.now.marks.items xs [] c.args.first in
    subst P (sym c.new-todo.ensures.items) c.requires

pub loop-s-preserved : goal.loop-s-preserved
loop-s-preserved c =
    let m = c.args.m.now.rows in
    let d = c.args.m.now.alphabet in
    let qs = states_of m in
    let g = IsAutomaton-states_of d m c.rows-s-end.ensures.valid in
    let s = c.loop-s.s in
    let marks = c.loop-s.self.marks.items in
    let sl : s < length qs = omega (arith, c.loop-s-test.true, ap length c.rows-s-end.ensures.value, length-states_of m) in
    let read : get_or marks s false ≡ c.index.result.now = get_or_default marks s false c.index.result.now (omega (arith, sl, c.loop-s.invariant.count)) ∙ sym c.index.ensures in
    let B : List ℕ → List Bool → Type 0 = λ todo bs. IsSpreading d qs bs todo [] (s + 1) in
    let T : List ℕ → Type 0 = λ todo. B todo c.if-index.self.marks.items in
    elim c.if-index.branch [
      | then-index+in_ok-mark_nexts w ↦
          subst T (sym (ap (λ v. v.items) w.todo-is)) (subst (B w.mark_nexts.new.todo.items) (sym (ap (λ l. l.marks.items) w.self-is))
          (w.in_ok-mark_nexts.ensures.spreading (s + 1) (IsSpreading-next d qs g marks c.loop-s.todo.items s sl (read ∙ w.if-index.true) c.loop-s.invariant)))
      | else-index w ↦
          subst T (sym (ap (λ v. v.items) w.todo-is)) (subst (B c.loop-s.todo.items) (sym (ap (λ l. l.marks.items) w.self-is))
          (IsSpreading-pass d qs g marks c.loop-s.todo.items s (read ∙ w.if-index.false) c.loop-s.invariant))
    ]

pub finish-requires : goal.finish-requires
finish-requires c =
    let m = c.args.m.now.rows in
    let d = c.args.m.now.alphabet in
    let n = length-states_of m in
    let P : ℕ → Type 0 = IsSpreading d (states_of m) c.loop-s.self.marks.items c.loop-s.todo.items [] in
    subst P n (IsSpreading-end d (states_of m) (IsAutomaton-states_of d m c.rows-s-end.ensures.valid) c.loop-s.self.marks.items c.loop-s.todo.items c.loop-s.s (omega (arith, n, c.loop-s-test.false, ap length c.rows-s-end.ensures.value)) c.loop-s.invariant)

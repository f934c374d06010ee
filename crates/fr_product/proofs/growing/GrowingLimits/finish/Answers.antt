use Rattle.std.proofs.Common.{ℕ, ◌≡◌, ◌<◌, ◌+◌, inl, inr, List, [], length, ap, subst, ◌∙◌, arith}
use Rattle.std.proofs.lemmas.List.{length_push, nil_from_length}
use Rattle.std.proofs.lemmas.Bool.{cases_lt}
use Rattle.fr_machine.specs.Rows.{states_of}
use Rattle.fr_machine.proofs.RowLaws.{IsAutomaton-states_of, length-states_of}
use Rattle.fr_product.specs.Spreading.{IsSpreading, unmarked}
use Rattle.fr_product.proofs.SpreadLaws.{AreLimitRows-spread, IsSpreading-taken}
use Rattle.fr_product.proofs.growing.GrowingLimits.finish.Goals as goal

pub mark_nexts-requires-clause-count : goal.mark_nexts-requires-clause-count
mark_nexts-requires-clause-count c = c.loop-s.invariant.count ∙ length-states_of c.args.m.now.rows

pub loop-s-preserved : goal.loop-s-preserved
loop-s-preserved c =
    let m = c.args.m.now.rows in
    let d = c.args.m.now.alphabet in
    let P : List ℕ → Type 0 = λ xs. IsSpreading d (states_of m) c.loop-s.self.marks.items xs [] (length m) in
    c.in_ok-mark_nexts.ensures.spreading (length m) (IsSpreading-taken d (states_of m) (IsAutomaton-states_of d m c.rows-rows.ensures.valid) c.loop-s.self.marks.items c.pop.new.self.items c.in-Some.s (length m) (subst P c.in-Some.ensures.items c.loop-s.invariant))

pub loop-s-smaller : goal.loop-s-smaller
loop-s-smaller c =
    let smaller : length c.mark_nexts.new.todo.items + unmarked c.mark_nexts.new.self.marks.items < length c.loop-s.todo.items + unmarked c.loop-s.self.marks.items = omega (arith, c.in_ok-mark_nexts.ensures.work, ap length c.in-Some.ensures.items, length_push c.pop.new.self.items c.in-Some.s) in
    smaller

pub returns : goal.returns
returns c =
    let todo = c.loop-s.todo in
    let empty : length todo.items ≡ 0 = elim (cases_lt 0 (length todo.items)) [
      | inl l ↦ absurd (let e = c.in_default.ensures.variant.1 (omega (arith, todo.ok.0)) in cc)
      | inr g ↦ omega arith
    ] in
    AreLimitRows-spread c.args.m.now.alphabet c.args.m.now.rows c.loop-s.self.marks.items todo.items c.rows-rows.ensures.valid (nil_from_length todo.items empty) c.loop-s.invariant

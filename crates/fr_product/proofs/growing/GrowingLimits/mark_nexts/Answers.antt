use Rattle.std.proofs.Common.{ℕ, ◌≡◌, ◌<◌, ◌+◌, arith, List, refl, length, take, drop, get_or, ◌∙◌, ap, subst}
use Rattle.std.proofs.lemmas.List.{drop_all, length-take-le}
use Rattle.std.proofs.lemmas.List.Elements.{All-get_or}
use Rattle.fr_machine.specs.Rows.{state_of, states_of}
use Rattle.fr_machine.proofs.RowLaws.{IsAutomaton-states_of, row_is, state_at_row}
use Rattle.fr_product.specs.Spreading.{IsSpreading}
use Rattle.fr_product.proofs.PeelLaws.{next_rows-split}
use Rattle.fr_product.proofs.SpreadLaws.{work_same, IsSpreading-marked}
use Rattle.fr_product.proofs.growing.GrowingLimits.mark_nexts.Goals as goal

pub loop-x-init : goal.loop-x-init
loop-x-init c = record { count = c.requires.count; spreading = λ from k. k; work = refl }

pub loop-x-preserved : goal.loop-x-preserved
loop-x-preserved c =
    let m = c.args.m.now.rows in
    let d = c.args.m.now.alphabet in
    let r = c.index-rows-s.result in
    let x = c.loop-x.x in
    let l : x < length r.perm = omega (arith, c.letters-x-end.ensures.value) in
    let h = row_is d m c.rows.ensures.valid c.args.s c.requires.row r (c.index-rows-s.is ∙ ap (λ xs. get_or xs c.args.s r) c.rows.ensures.value) in
    let n = get_or r.next x 0 in
    let inside : n < length m = All-get_or (λ k. k < length m) r.next x 0 (omega (arith, h.width, h.permutes.degree, c.rows.ensures.valid.letters)) h.below in
    let kept = work_same c.loop-x.self.marks.items c.mark.new.self.marks.items c.loop-x.todo.items c.mark.new.todo.items n (omega (arith, inside, c.loop-x.invariant.count)) c.in_ok-mark.ensures in
    let more = drop (x + 1) (state_of r).next in
    record {
      count = kept.0 ∙ c.loop-x.invariant.count;
      spreading = λ from k.
          let P : List ℕ → Type 0 = λ xs. IsSpreading d (states_of m) c.loop-x.self.marks.items c.loop-x.todo.items xs from in
          IsSpreading-marked d (states_of m) (IsAutomaton-states_of d m c.rows.ensures.valid) c.loop-x.self.marks.items c.mark.new.self.marks.items c.loop-x.todo.items c.mark.new.todo.items more n from c.in_ok-mark.ensures (subst P (next_rows-split d (length m) x r h c.rows.ensures.valid.letters l) (c.loop-x.invariant.spreading from k));
      work = kept.1 ∙ c.loop-x.invariant.work;
    }

pub returns-clause-spreading : goal.returns-clause-spreading
returns-clause-spreading c = λ from k.
    let m = c.args.m.now.rows in
    let d = c.args.m.now.alphabet in
    let r = c.index-rows-s.result in
    let x = c.loop-x.x in
    let at = c.index-rows-s.is ∙ ap (λ xs. get_or xs c.args.s r) c.rows.ensures.value in
    let h = row_is d m c.rows.ensures.valid c.args.s c.requires.row r at in
    let e = state_at_row d m c.rows.ensures.valid c.args.s c.requires.row r at in
    let O : List ℕ → Type 0 = λ xs. IsSpreading d (states_of m) c.args.self.now.marks.items c.args.todo.now.items xs from in
    let N : List ℕ → Type 0 = λ xs. IsSpreading d (states_of m) c.loop-x.self.marks.items c.loop-x.todo.items xs from in
    let size : length (take (length r.perm) r.next) ≡ length r.perm = length-take-le (length r.perm) r.next (omega (arith, h.width, h.permutes.degree, c.rows.ensures.valid.letters)) in
    subst N (drop_all x (state_of r).next (omega (arith, size, c.letters-x-end.ensures.value))) (c.loop-x.invariant.spreading from (subst O (ap (λ q. q.next) e) k))

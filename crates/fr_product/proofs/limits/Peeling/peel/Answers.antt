use Rattle.std.proofs.Common.{ℕ, ◌≡◌, ◌<◌, ◌≤◌, ◌+◌, arith, Bool, false, List, [], refl, sym, length, drop, get_or, set, ◌∙◌, ap, subst}
use Rattle.std.proofs.lemmas.List.{get_or-map}
use Rattle.std.proofs.lemmas.List.Elements.{All-get_or}
use Rattle.fr_model.specs.Automata.{state_at}
use Rattle.fr_machine.specs.declared.row.Row.{Row}
use Rattle.fr_machine.specs.Rows.{state_of, states_of, IsMachine, IsRow}
use Rattle.fr_machine.proofs.RowLaws.{IsAutomaton-states_of, row_is, length-states_of}
use Rattle.fr_product.specs.Limits.{IsPeeling, times}
use Rattle.fr_product.proofs.LimitLaws.{times-here}
use Rattle.fr_product.proofs.PeelLaws.{IsPeeling-taken, IsPeeling-left, next_rows-split}
use Rattle.fr_product.proofs.limits.Peeling.peel.Goals as goal

-- the row of a state
row_state : (m : List Row) (s : ℕ) (r : Row) → s < length m → r ≡ get_or m s r → state_at (states_of m) s ≡ state_of r
row_state m s r l e = get_or-map state_of m s r (record { perm = []; next = [] }) l ∙ ap state_of (sym e)

-- the next row at a letter is one of the next rows that still count
next_counts : (d : ℕ) (m : List Row) (hm : IsMachine d m) (r : Row) → IsRow d (length m) r → (remains : List Bool) (arrivals todo : List ℕ) (x : ℕ) → x < length r.perm → IsPeeling d (states_of m) remains arrivals todo (drop x (state_of r).next)
    → (get_or r.next x 0 < length (states_of m)) × (0 < get_or arrivals (get_or r.next x 0) 0)
next_counts d m hm r h remains arrivals todo x l p =
    let n = get_or r.next x 0 in
    let few : length r.perm ≤ 8 = omega (arith, h.permutes.degree, hm.letters) in
    let below : n < length (states_of m) = omega (arith, length-states_of m, All-get_or (λ k. k < length m) r.next x 0 (omega (arith, h.width)) h.below) in
    let split = ap (times n) (next_rows-split d (length m) x r h hm.letters l) in
    (below, omega (arith, p.counts n below, split, times-here n n (drop (x + 1) (state_of r).next) refl))

pub loop-x-init : goal.loop-x-init
loop-x-init c =
    let m = c.args.m.now.rows in
    let d = c.args.m.now.alphabet in
    let e = row_state m c.args.s c.index-rows-s.result c.requires.row (c.index-rows-s.is ∙ ap (λ xs. get_or xs c.args.s c.index-rows-s.result) c.rows.ensures.value) in
    let remains = set c.args.self.now.remains.items c.args.s false in
    let P : List ℕ → Type 0 = λ xs. IsPeeling d (states_of m) remains c.args.self.now.arrivals.items c.args.self.now.todo.items xs in
    record {
      peeling = subst P (ap (λ q. q.next) e) (IsPeeling-taken d (states_of m) (IsAutomaton-states_of d m c.rows.ensures.valid) c.args.self.now.remains.items remains c.args.self.now.arrivals.items c.args.self.now.todo.items c.args.s refl c.requires.peeling);
      remains = refl;
    }

pub leave-requires-clause-counted : goal.leave-requires-clause-counted
leave-requires-clause-counted c =
    let m = c.args.m.now.rows in
    let d = c.args.m.now.alphabet in
    let r = c.index-rows-s.result in
    let h = row_is d m c.rows.ensures.valid c.args.s c.requires.row r (c.index-rows-s.is ∙ ap (λ xs. get_or xs c.args.s r) c.rows.ensures.value) in
    (next_counts d m c.rows.ensures.valid r h c.loop-x.self.remains.items c.loop-x.self.arrivals.items c.loop-x.self.todo.items c.loop-x.x (omega (arith, c.letters-x-end.ensures.value)) c.loop-x.invariant.peeling).1

pub loop-x-preserved : goal.loop-x-preserved
loop-x-preserved c =
    let m = c.args.m.now.rows in
    let d = c.args.m.now.alphabet in
    let r = c.index-rows-s.result in
    let x = c.loop-x.x in
    let l : x < length r.perm = omega (arith, c.letters-x-end.ensures.value) in
    let h = row_is d m c.rows.ensures.valid c.args.s c.requires.row r (c.index-rows-s.is ∙ ap (λ xs. get_or xs c.args.s r) c.rows.ensures.value) in
    let n = next_counts d m c.rows.ensures.valid r h c.loop-x.self.remains.items c.loop-x.self.arrivals.items c.loop-x.self.todo.items x l c.loop-x.invariant.peeling in
    let P : List ℕ → Type 0 = λ xs. IsPeeling d (states_of m) c.loop-x.self.remains.items c.loop-x.self.arrivals.items c.loop-x.self.todo.items xs in
    let Q : List Bool → Type 0 = λ bs. IsPeeling d (states_of m) bs c.leave.new.self.arrivals.items c.leave.new.self.todo.items (drop (x + 1) (state_of r).next) in
    record {
      peeling = subst Q (sym c.in_ok-leave.ensures.remains) (IsPeeling-left d (states_of m) (IsAutomaton-states_of d m c.rows.ensures.valid) c.loop-x.self.remains.items c.loop-x.self.arrivals.items c.leave.new.self.arrivals.items c.loop-x.self.todo.items c.leave.new.self.todo.items (drop (x + 1) (state_of r).next) (get_or r.next x 0) n.0 c.in_ok-leave.ensures.arrivals c.in_ok-leave.ensures.todo (subst P (next_rows-split d (length m) x r h c.rows.ensures.valid.letters l) c.loop-x.invariant.peeling));
      remains = c.in_ok-leave.ensures.remains ∙ c.loop-x.invariant.remains;
    }

use Rattle.std.proofs.Common.{ℕ, ◌<◌, ◌≡◌, true, false, List, arith, length, get_or, ap, sym, ◌∙◌, subst, refl, replicate, inl, inr}
use Rattle.std.proofs.lemmas.List.{get_or_push, length_push, nil_from_length}
use Rattle.std.proofs.lemmas.Bool.{cases_lt}
use Rattle.fr_machine.specs.declared.row.Row.{Row}
use Rattle.fr_product.specs.Limits.{AreUnreached, arrivals_from}
use Rattle.fr_product.proofs.PeelLaws.{IsPeeling-start, left_count, left_count-set, AreLimitRows-peeled}
use Rattle.fr_product.proofs.SectionMarkLaws.{AreLimitSections-marked}
use Rattle.fr_product.proofs.limits.limit_rows.Goals as goal

pub loop-s-init : goal.loop-s-init
loop-s-init c =
    let m = c.args.m.now.rows in
    let same = c.rows-rows.ensures.value in
    let P : List Row → Type 0 = λ rows. (y : ℕ) → y < length rows → get_or c.in_ok-arrivals.arrivals.items y 0 ≡ arrivals_from y rows in
    let Q : List ℕ → Type 0 = λ xs. AreUnreached xs c.in_ok-todo.todo.items in
    IsPeeling-start c.args.m.now.alphabet m c.in_ok-remains.remains.items c.in_ok-arrivals.arrivals.items c.in_ok-todo.todo.items
    (c.in_ok-remains.ensures.items_if_clones_equal (λ y e. e) ∙ ap (λ rows. replicate (length rows) true) same)
    (c.in_ok-arrivals.ensures.size ∙ ap length same)
    (subst P same c.in_ok-arrivals.ensures.counts)
    (subst Q c.deref.ensures.value c.in_ok-todo.ensures)

pub loop-s-smaller : goal.loop-s-smaller
loop-s-smaller c =
    let s = c.in-Some.s in
    let last = c.loop-s.invariant.sound (length c.pop.new.self.items) (omega (arith, ap length c.in-Some.ensures.items, length_push c.pop.new.self.items s)) in
    let at : get_or c.loop-s.peeling.todo.items (length c.pop.new.self.items) 0 ≡ s = ap (λ xs. get_or xs (length c.pop.new.self.items) 0) c.in-Some.ensures.items ∙ get_or_push c.pop.new.self.items s 0 (length c.pop.new.self.items) refl in
    let fewer = left_count-set c.loop-s.peeling.remains.items s (ap (λ k. get_or c.loop-s.peeling.remains.items k false) (sym at) ∙ last.1) in
    let goal' : left_count c.peel.new.self.remains.items < left_count c.loop-s.peeling.remains.items = omega (arith, fewer, ap left_count c.in_ok-peel.ensures.remains) in
    goal'

pub returns : goal.returns
returns c =
    let todo = c.loop-s.peeling.todo in
    let empty : length todo.items ≡ 0 = elim (cases_lt 0 (length todo.items)) [
      | inl l ↦ absurd (let e = c.in_default.ensures.variant.1 (omega (arith, todo.ok.0)) in cc)
      | inr g ↦ omega arith
    ] in
    let marked = AreLimitRows-peeled c.args.m.now.alphabet c.args.m.now.rows c.loop-s.peeling.remains.items c.loop-s.peeling.arrivals.items todo.items c.rows-rows.ensures.valid (nil_from_length todo.items empty) c.loop-s.invariant in
    record {
      limits = marked;
      sections = AreLimitSections-marked c.args.m.now.alphabet c.args.m.now.rows c.loop-s.peeling.remains.items c.rows-rows.ensures.valid marked;
    }

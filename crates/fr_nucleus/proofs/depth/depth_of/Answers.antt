use Rattle.std.proofs.Common.{ℕ, ◌≡◌, ◌<◌, ◌+◌, Bool, List, length, arith, ap, sym, subst, ◌∙◌}
use Rattle.std.proofs.lemmas.List.{with_items_is}
use Rattle.fr_machine.specs.Rows.{states_of}
use Rattle.fr_machine.proofs.RowLaws.{length-states_of}
use Rattle.fr_nucleus.specs.Depths.{AreBack, LeadsIn}
use Rattle.fr_nucleus.proofs.DepthLaws.{AreBack-more, leading, short, IsWayOut-from}
use Rattle.fr_nucleus.proofs.depth.depth_of.Goals as goal

-- the words are shorter than the rows are many
shorter : (c : goal.After-swap) → c.loop-here.depth < length c.args.m.now.rows
shorter c =
    let m = c.args.m.now in
    let B : List Bool → Type 0 = λ here. AreBack m.alphabet (states_of m.rows) c.args.outside.items c.loop-here.depth here in
    let w = leading m.alphabet m.rows c.args.outside.items c.deref.result.now c.loop-here.depth (subst B (sym c.deref.ensures.value) c.loop-here.invariant.back) c.loop-here-test.ensures.cases in
    short m.alphabet m.rows c.rows-rows.ensures.valid c.args.outside.items c.loop-here.depth w.0 c.requires.limits w.1 w.2

pub overflow_add-depth : goal.overflow_add-depth
overflow_add-depth c = omega (arith, shorter c, c.rows-rows.ensures.valid.most)

pub loop-here-smaller : goal.loop-here-smaller
loop-here-smaller c = omega (arith, shorter c)

pub loop-here-preserved : goal.loop-here-preserved
loop-here-preserved c =
    let m = c.args.m.now in
    let B : List Bool → Type 0 = λ here. AreBack m.alphabet (states_of m.rows) c.args.outside.items c.loop-here.depth here in
    let h = subst B (sym c.deref.ensures.value) c.loop-here.invariant.back in
    let w = leading m.alphabet m.rows c.args.outside.items c.deref.result.now c.loop-here.depth h c.loop-here-test.ensures.cases in
    let h2 = subst B (sym c.deref-in-loop-here.ensures.value) c.loop-here.invariant.back in
    let N : List Bool → Type 0 = λ back. AreBack m.alphabet (states_of m.rows) c.args.outside.items (c.loop-here.depth + 1) back in
    record {
      back = subst N (sym (ap (λ v. v.items) c.swap.ensures.x_after ∙ with_items_is c.loop-here.before c.step_back.new.before (omega (arith, c.step_back.ensures.count, c.loop-here.invariant.size, c.loop-here.before.ok.0)))) (AreBack-more m.alphabet m.rows c.rows-rows.ensures.valid c.args.outside.items c.deref-in-loop-here.result.now c.step_back.new.before c.loop-here.depth h2 c.step_back.ensures);
      size = omega (arith, ap (λ v. length v.items) c.swap.ensures.y_after, c.loop-here.invariant.back.count, length-states_of m.rows);
      last = λ j e. let same : c.loop-here.depth ≡ j = omega (arith, e) in subst (λ i. (s : ℕ) × (s < length (states_of m.rows)) × LeadsIn m.alphabet (states_of m.rows) c.args.outside.items i s) same w;
    }

pub returns : goal.returns
returns c =
    let m = c.args.m.now in
    let B : List Bool → Type 0 = λ here. AreBack m.alphabet (states_of m.rows) c.args.outside.items c.loop-here.depth here in
    IsWayOut-from m.alphabet m.rows c.args.outside.items c.deref.result.now c.loop-here.depth (subst B (sym c.deref.ensures.value) c.loop-here.invariant.back) c.loop-here-test.ensures.cases c.loop-here.invariant.last

use Rattle.std.proofs.Common.{◌+◌, ◌≡◌, ℕ, subst, arith}
use Rattle.fr_layout.specs.Places.{field_at}
use Rattle.fr_words.specs.Hands.{note}
use Rattle.fr_words_examples.specs.Filling.{IsFilling}
use Rattle.fr_words_examples.proofs.Fillings.{adds_both}
use Rattle.fr_words_examples.proofs.fill_rows.Goals as goal

pub loop-row-preserved : goal.loop-row-preserved
loop-row-preserved c =
    let p = c.args.words.now.plan in
    let start = c.args.machine.start in
    let rows = c.args.machine.rows.now in
    let e : start + c.loop-row.row + 1 ≡ start + (c.loop-row.row + 1) = omega arith in
    record {
      of = c.fill_row.ensures.of;
      filling = subst (λ (x : ℕ). IsFilling p (note c.fill_row.new.hand) start rows (field_at p x 0)) e c.fill_row.ensures.filling;
      adds = adds_both p start rows (note c.args.hand.now) (note c.loop-row.hand) (note c.fill_row.new.hand) c.loop-row.invariant.adds c.fill_row.ensures.adds;
    }

use Rattle.fr_words.specs.Hands.{note}
use Rattle.fr_words_examples.proofs.Fillings.{adds_both, filled_after}
use Rattle.fr_words_examples.proofs.publish_at.Goals as goal

pub loop-row-preserved : goal.loop-row-preserved
loop-row-preserved c =
    let p = c.args.words.now.plan in
    let start = c.args.machine.start in
    let rows = c.args.machine.rows.now in
    let adds = c.publish_row.ensures.adds c.if-not-publish_row.false in
    record {
      of = c.publish_row.ensures.of;
      filled = filled_after p start rows (note c.loop-row.hand) (note c.publish_row.new.hand) c.loop-row.invariant.filled adds;
      handles = c.publish_row.ensures.handles c.if-not-publish_row.false;
      adds = adds_both p start rows (note c.args.hand.now) (note c.loop-row.hand) (note c.publish_row.new.hand) c.loop-row.invariant.adds adds;
      lawful = λ _. c.publish_row.ensures.lawful c.if-not-publish_row.false;
    }

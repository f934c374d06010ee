use Rattle.fr_classes.specs.Hashes.{AreInvariant}
use Rattle.fr_classes.proofs.HashLaws.{AreInvariant-more}
use Rattle.fr_classes.proofs.hashes.hashes.Goals as goal

pub loop-preserved : goal.loop-preserved
loop-preserved c =
    let i = c.loop.invariant in
    let rows = c.args.rows.now in
    let before : AreInvariant rows c.swap.new.y.items = rw c.swap.ensures.y_after i.alike in
    record {
      count = c.hash_rows.ensures.count;
      shorter_count = rw c.swap.ensures.y_after i.count;
      alike = AreInvariant-more c.requires.0 rows c.requires.1 c.swap.new.y.items c.hash_rows.new.hashes.items before (rw c.deref.ensures.value at c.hash_rows.ensures);
    }

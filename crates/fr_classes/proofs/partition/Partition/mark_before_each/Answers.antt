use Rattle.std.proofs.Common.{arith, ◌<◌, [], length, get_or, refl}
use Rattle.std.specs.List.{All}
use Rattle.std.proofs.lemmas.List.Elements.{All-get_or}
use Rattle.fr_classes.specs.Predecessors.{lists_of}
use Rattle.fr_classes.proofs.MarkLaws.{IsSpreadOver-more}
use Rattle.fr_classes.proofs.PredecessorLaws.{length-lists_of}
use Rattle.fr_classes.proofs.partition.Partition.mark_before_each.Goals as goal

pub mark_before-requires-clause-inside : goal.mark_before-requires-clause-inside
mark_before-requires-clause-inside c =
    let before = c.args.before.now in
    let s = get_or c.args.moved.now c.loop-row.row-index 0 in
    let n = length c.args.self.now.of.items in
    let lt : s < length before.latest.items = All-get_or (λ s. s < length before.latest.items) c.args.moved.now c.loop-row.row-index 0 c.loop-row-test.true c.requires.moved in
    rw c.loop-row.invariant.of (All-get_or (λ ps. All (λ p. p < n) ps) (lists_of before) s [] (omega (arith, length-lists_of before)) c.requires.before)

pub loop-row-preserved : goal.loop-row-preserved
loop-row-preserved c =
    let before = c.args.before.now in
    IsSpreadOver-more c.args.self.now c.loop-row.self c.mark_before.new.self (lists_of before) c.args.moved.now _ c.loop-row.row-index c.loop-row.invariant c.in_ok-mark_before.ensures refl c.loop-row-test.true

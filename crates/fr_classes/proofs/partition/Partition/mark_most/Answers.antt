use Rattle.std.proofs.Common.{ℕ, ◌≡◌, ◌<◌, length, get_or, arith, ap}
use Rattle.std.proofs.lemmas.List.{get_or_read}
use Rattle.std.proofs.lemmas.List.Elements.{All-get_or}
use Rattle.fr_classes.specs.declared.partition.Partition.{Partition}
use Rattle.fr_classes.specs.Refinement.{IsWider}
use Rattle.fr_classes.proofs.MarkLaws.{clean_at-le, IsUsed-wider}
use Rattle.fr_classes.proofs.PartitionLaws.{classes-le}
use Rattle.fr_classes.proofs.partition.Partition.mark_most.Goals as goal

-- the class of a row that waits
class_lt : (p q : Partition) (i s x : ℕ) → IsWider p q → i < length q.todo.items → s ≡ get_or q.todo.items i s → x ≡ get_or q.of.items s x → x < length q.known.items
class_lt p q i s x w l e f =
    let inside : s < length q.of.items = omega (arith, get_or_read q.todo.items i s l e 0, All-get_or (λ s. s < length q.of.items) q.todo.items i 0 l w.queued.inside) in
    omega (arith, get_or_read q.of.items s x inside f 0, All-get_or (λ c. c < length q.known.items) q.of.items s 0 inside w.tallied.below)

pub size-count-requires-clause-class : goal.size-count-requires-clause-class
size-count-requires-clause-class c =
    let p = c.args.self.now in
    let q = c.loop-i.self in
    let w = c.loop-i.invariant in
    let at : c.loop-i.i < length q.todo.items = omega (arith, c.loop-i-test.true, c.loop-i.auto.i-end, c.len-i-end.ensures, p.todo.ok.0, w.longer) in
    let below = class_lt p q c.loop-i.i c.index-row.result.now c.index-class.result.now w at c.index-row.ensures c.index-class.ensures in
    omega (arith, below, classes-le q (IsUsed-wider p q w c.requires.used), c.requires.count, ap length w.of)

pub overflow_mul-clean : goal.overflow_mul-clean
overflow_mul-clean c =
    let p = c.args.self.now in
    let q = c.loop-i.self in
    let w = c.loop-i.invariant in
    let at : c.loop-i.i < length q.todo.items = omega (arith, c.loop-i-test.true, c.loop-i.auto.i-end, c.len-i-end.ensures, p.todo.ok.0, w.longer) in
    let below = class_lt p q c.loop-i.i c.index-row.result.now c.index-class.result.now w at c.index-row.ensures c.index-class.ensures in
    let read = get_or_read q.clean.items c.index-class.result.now c.index-clean.result.now (omega (arith, below, w.tallied.as_many)) c.index-clean.ensures 0 in
    omega (arith, read, clean_at-le q c.index-class.result.now w.tallied below)

use Rattle.std.proofs.Common.{arith, ℕ, ◌≡◌, ◌<◌, List, length, get_or, ◌∙◌, ap, sym}
use Rattle.std.specs.List.{All}
use Rattle.fr_machine.specs.declared.row.Row.{Row}
use Rattle.fr_machine.specs.Rows.{IsRow, IsMachine}
use Rattle.fr_classes.specs.Refinement.{IsSpreadOver, IsRefining}
use Rattle.fr_classes.specs.Predecessors.{lists_of}
use Rattle.fr_classes.proofs.PartitionLaws.{classes-le, IsRefining-todo, IsQueued-todo, IsQueued-clean, IsRefining-wider, IsRefining-next, Progress-from}
use Rattle.fr_classes.proofs.partition.Partition.refine.Goals as goal

own_degree : (d n k : ℕ) (rows : List Row) (e : Row) → IsMachine d rows → n ≡ length rows → k < length rows → IsRow (length (get_or rows k e).perm) n (get_or rows k e)
own_degree d n k rows e m f l = let i = m.valid k e l in rw (i.permutes.degree, f) i

pub settle-requires : goal.settle-requires
settle-requires c =
    let p = c.args.self.now in
    let q = c.mark_most.new.self in
    let w = c.in_ok-mark_most.ensures in
    let h : IsRefining c.args.rows.now q = IsRefining-wider c.args.rows.now p q w c.requires.refining in
    record {
      rows = λ k e l. own_degree c.requires.machine.0 (length q.of.items) k c.args.rows.now e c.requires.machine.1 h.count l;
      refining = IsRefining-todo c.args.rows.now q c.replace-todo.new.dest h;
      queued = IsQueued-todo q c.replace-todo.new.dest c.deref.result.now (rw (c.deref.ensures.value, c.replace-todo.ensures.value) w.queued);
      todo = rw c.replace-todo.ensures.after c.new.ensures.items;
    }

pub follow-requires : goal.follow-requires
follow-requires c =
    let x = c.in_ok-moved.ensures in
    let n = length c.args.rows.now in
    let settled = c.settle.new.self in
    let of : All (λ k. k < length settled.known.items) c.deref-2.result.now = rw c.deref-2.ensures.value x.tallied.below in
    let moved : All (λ s. s < n) c.deref-3.result.now = rw c.deref-3.ensures.value x.inside in
    record {
      members = c.requires.members;
      of = λ k d l. omega (arith, of k d l, classes-le settled x.used, x.count, c.requires.member_count);
      count = ap length c.deref-2.ensures.value ∙ x.count ∙ sym c.requires.member_count;
      moved = λ k d l. omega (arith, moved k d l, c.requires.member_count);
    }

pub mark_before_each-requires : goal.mark_before_each-requires
mark_before_each-requires c =
    let x = c.in_ok-moved.ensures in
    let n = length c.args.rows.now in
    let w : All (λ s. s < n) c.deref-4.result.now = rw c.deref-4.ensures.value x.inside in
    record {
      links = c.requires.before.links;
      before = rw x.count c.requires.before.inside;
      moved = λ k d l. omega (arith, w k d l, c.requires.before.count);
      tallied = x.tallied;
      queued = IsQueued-clean (length c.args.rows.now) c.settle.new.self x.count x.clean x.todo;
    }

pub returns : goal.returns
returns c =
    let p = c.args.self.now in
    let q = c.mark_most.new.self in
    let w = c.in_ok-mark_most.ensures in
    let rows = c.args.rows.now in
    let before = lists_of c.args.before.now in
    let moved = c.in_ok-moved.moved.items in
    let x = c.in_ok-moved.ensures in
    let y : IsSpreadOver c.settle.new.self c.mark_before_each.new.self before moved = rw c.deref-4.ensures.value at c.in_ok-mark_before_each.ensures in
    record {
      refining = IsRefining-next c.requires.machine.0 rows c.requires.machine.1 c.args.before.now q c.settle.new.self c.mark_before_each.new.self moved c.requires.before (IsRefining-wider rows p q w c.requires.refining) x y.marked y.of y.known y.tallied;
      queued = y.queued;
      progress = Progress-from rows q.of.items p q c.settle.new.self c.mark_before_each.new.self before moved w x y;
      members = c.follow.ensures.members;
      member_count = c.follow.ensures.count ∙ c.requires.member_count;
    }

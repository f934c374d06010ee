use Rattle.std.proofs.Common.{arith, ◌≡◌, inl, inr, [], length, vec_len}
use Rattle.std.proofs.lemmas.Result.{IfOk-weaker}
use Rattle.fr_classes.specs.Refinement.{IsQueued}
use Rattle.fr_classes.proofs.PartitionLaws.{AreClasses-from, classes-le}
use Rattle.fr_classes.proofs.partition.refined_classes.Goals as goal

pub by_first_places-requires : goal.by_first_places-requires
by_first_places-requires c =
    let h = c.in_ok-partition.ensures.refining.tallied in
    let known_len : vec_len c.in_ok-partition.partition.known ≡ length c.in_ok-partition.partition.known.items = omega (arith, c.in_ok-partition.partition.known.ok.0) in
    record {
      few = rw c.deref.ensures.value h.few;
      below = rw (c.deref.ensures.value, c.len.ensures, known_len) h.below;
    }

pub returns : goal.returns
returns c =
    let rows = c.args.rows.now in
    let p = c.in_ok-partition.partition in
    let h = c.in_ok-partition.ensures.refining in
    let queued : IsQueued p [] = elim c.in_ok-partition.ensures.ends [ inl q ↦ q | inr l ↦ absurd (omega (arith, l, classes-le p h.used, h.count)) ] in
    IfOk-weaker c.by_first_places.result _ _ (λ of n. AreClasses-from c.requires.machine.0 rows c.requires.machine.1 p of.items h queued (rw c.deref.ensures.value at n)) c.by_first_places.ensures

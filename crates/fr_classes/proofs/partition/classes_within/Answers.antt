use Rattle.std.proofs.Common.{arith, ◌≡◌, ◌≤◌, inl, inr, [], length, vec_len}
use Rattle.fr_machine.specs.Rows.{IsMachine}
use Rattle.fr_classes.specs.Numberings.{IsNumbering}
use Rattle.fr_classes.specs.Classes.{HasMoreClasses}
use Rattle.fr_classes.specs.Refinement.{IsQueued}
use Rattle.fr_classes.proofs.PartitionLaws.{AreClasses-from, AreClasses-guessed}
use Rattle.fr_classes.proofs.LimitLaws.{HasMoreClasses-from, HasMoreClasses-guessed, not-HasMoreClasses, not-HasMoreClasses-guessed}
use Rattle.fr_classes.proofs.partition.classes_within.Goals as goal

pub refined-requires : goal.refined-requires
refined-requires c = record { machine = (c.args.m.now.alphabet, rw c.rows-rows.ensures.value c.rows-rows.ensures.valid); guess = c.in_ok-guess.ensures.guess }

pub by_first_places-requires : goal.by_first_places-requires
by_first_places-requires c =
    let h = c.in_ok-partition.ensures.refining.tallied in
    let known_len : vec_len c.in_ok-partition.partition.known ≡ length c.in_ok-partition.partition.known.items = omega (arith, c.in_ok-partition.partition.known.ok.0) in
    record {
      few = rw c.deref.ensures.value h.few;
      below = rw (c.deref.ensures.value, c.len-2.ensures, known_len) h.below;
    }

pub returns-then-len-limit : goal.returns-then-len-limit
returns-then-len-limit c =
    let rows = c.rows-rows.result.now in
    let p = c.in_ok-partition.partition in
    let known_len : vec_len p.known ≡ length p.known.items = omega (arith, p.known.ok.0) in
    let h : HasMoreClasses rows c.args.limit = HasMoreClasses-from rows p c.args.limit c.in_ok-partition.ensures.refining (omega (arith, c.if-len-limit.true, c.len.ensures, known_len)) in
    rw c.rows-rows.ensures.value at h

pub returns : goal.returns
returns c =
    let rows = c.rows-rows.result.now in
    let p = c.in_ok-partition.partition in
    let h = c.in_ok-partition.ensures.refining in
    let m : IsMachine c.args.m.now.alphabet rows = rw c.rows-rows.ensures.value c.rows-rows.ensures.valid in
    let known_len : vec_len p.known ≡ length p.known.items = omega (arith, p.known.ok.0) in
    let few : length p.known.items ≤ c.args.limit = omega (arith, c.if-len-limit.false, c.len.ensures, known_len) in
    let queued : IsQueued p [] = elim c.in_ok-partition.ensures.ends [ inl q ↦ q | inr l ↦ absurd (omega (arith, l, few)) ] in
    let numbers : IsNumbering p.of.items c.in_ok-by_first_places.field-0.items = rw c.deref.ensures.value at c.in_ok-by_first_places.ensures in
    rw (← c.rows-rows.ensures.value) (AreClasses-from c.args.m.now.alphabet rows m p c.in_ok-by_first_places.field-0.items h queued numbers, not-HasMoreClasses c.args.m.now.alphabet rows m p c.args.limit h queued few)

pub returns-then-guess-limit : goal.returns-then-guess-limit
returns-then-guess-limit c =
    let rows = c.rows-rows.result.now in
    let guess = c.in_ok-guess.guess.numbering in
    let h : HasMoreClasses rows c.args.limit = HasMoreClasses-guessed rows guess.of.items guess.count c.args.limit c.in_ok-guess.ensures.guess c.if-guess-limit.true in
    rw c.rows-rows.ensures.value at h

pub returns-then-branch : goal.returns-then-branch
returns-then-branch c =
    let rows = c.rows-rows.result.now in
    let m : IsMachine c.args.m.now.alphabet rows = rw c.rows-rows.ensures.value c.rows-rows.ensures.valid in
    let guess = c.in_ok-guess.guess.numbering in
    let stable = c.in_ok-is_stable.ensures c.if-branch.true in
    rw (← c.rows-rows.ensures.value)
    (AreClasses-guessed c.args.m.now.alphabet rows m guess.of.items guess.count c.in_ok-guess.ensures.guess stable, not-HasMoreClasses-guessed c.args.m.now.alphabet rows m guess.of.items guess.count c.args.limit c.in_ok-guess.ensures.guess stable (omega (arith, c.if-guess-limit.false)))

use Rattle.std.proofs.Common.{suc, ◌≡◌, ◌≤◌, take}
use Rattle.std.specs.Prelude.{fold, max}
use Rattle.fr_classes.specs.Numberings.{IsNumberedFrom}
use Rattle.fr_canon.proofs.reading.met_after.Given as goal

abbrev pub invariant-loop-next : goal.invariant-loop-next
invariant-loop-next l = record {
  few : l.met ≤ 1024;
  met : l.met ≡ fold (λ c x. max c (suc x)) l.before (take l.next-index l.next-items);
  numbered : IsNumberedFrom l.before (take l.next-index l.next-items);
}

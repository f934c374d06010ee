use Rattle.std.proofs.Common.{◌≡◌, ◌≤◌, ◌-◌, [], length, take}
use Rattle.fr_io.specs.Taken.{Gave}
use Rattle.fr_io.proofs.sink.put_all.Given as goal

abbrev pub invariant-loop-done : goal.invariant-loop-done
invariant-loop-done g l = record {
  within : l.done ≤ length l.bytes;
  gave : Gave (g.T.Sink.written l.fn.out) (g.T.Sink.written l.out) (take l.done l.bytes);
  later : g.T.Sink.faults l.fn.out ≤ g.T.Sink.faults l.out;
  empty : l.bytes ≡ [] → l.out ≡ l.fn.out;
}

abbrev pub decreases-loop-done : goal.decreases-loop-done
decreases-loop-done g l = length l.bytes - l.done

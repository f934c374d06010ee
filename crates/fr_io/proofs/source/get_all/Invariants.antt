use Rattle.std.proofs.Common.{◌≡◌, ◌≤◌, ◌-◌, vec_len, length}
use Rattle.fr_io.specs.Taken.{Took}
use Rattle.fr_io.proofs.source.get_all.Given as goal

abbrev pub invariant-loop-all : goal.invariant-loop-all
invariant-loop-all g l = record {
  took : Took (g.S.Source.left l.fn.input) (g.S.Source.left l.input) l.all.items;
  short : vec_len l.all ≤ l.most;
  later : g.S.Source.faults l.fn.input ≤ g.S.Source.faults l.input;
  whole : length l.buf ≡ 4096;
}

abbrev pub decreases-loop-all : goal.decreases-loop-all
decreases-loop-all g l = l.most - vec_len l.all

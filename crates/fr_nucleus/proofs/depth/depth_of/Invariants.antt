use Rattle.std.proofs.Common.{ℕ, suc, ◌≡◌, ◌<◌, ◌-◌, length}
use Rattle.fr_machine.specs.Rows.{states_of}
use Rattle.fr_nucleus.specs.Depths.{AreBack, LeadsIn}
use Rattle.fr_nucleus.proofs.depth.depth_of.Given as goal

abbrev pub invariant-loop-here : goal.invariant-loop-here
invariant-loop-here l = record {
  back : AreBack l.m.alphabet (states_of l.m.rows) l.fn.outside.items l.depth l.here.items;
  size : length l.before.items ≡ length l.m.rows;
  last : (j : ℕ) → l.depth ≡ suc j → (s : ℕ) × (s < length (states_of l.m.rows)) × LeadsIn l.m.alphabet (states_of l.m.rows) l.fn.outside.items j s;
}

abbrev pub decreases-loop-here : goal.decreases-loop-here
decreases-loop-here l = length l.m.rows - l.depth

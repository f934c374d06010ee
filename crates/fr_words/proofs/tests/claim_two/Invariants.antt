use Rattle.std.proofs.Common.{◌-◌, ◌+◌, ◌≡◌, ◌≤◌, []}
use Rattle.fr_words.specs.Hands.{note, IsOf}
use Rattle.fr_words.proofs.tests.claim_two.Given as goal

abbrev pub invariant-loop-seen : goal.invariant-loop-seen
invariant-loop-seen l = record { of : IsOf l.words l.hand; own : (note l.hand).own ≡ []; seen : l.seen ≤ (note l.hand).seen; capacity : l.words.plan.capacity ≡ 4; most : l.seen ≤ 4 }

abbrev pub decreases-loop-seen : goal.decreases-loop-seen
decreases-loop-seen l = 5 - l.seen

use Rattle.std.proofs.Common.{◌≡◌, ◌+◌, ◌≤◌, drop}
use Rattle.fr_model.specs.Ranks.{smaller_in}
use Rattle.fr_alphabet.proofs.rank.count_below.Given as goal

abbrev pub invariant-loop-y : goal.invariant-loop-y
invariant-loop-y l = record {
  rest : l.count + smaller_in l.x (drop l.y-index l.images) ≡ smaller_in l.x l.images;
  most : l.count ≤ l.y-index;
}

use Rattle.std.proofs.Common.{◌≡◌, ◌≤◌, ◌+◌, ◌++◌, length, replicate, vec_capacity}
use Rattle.fr_store.proofs.blocks.push_places.Given as goal

abbrev pub invariant-loop : goal.invariant-loop
invariant-loop l = record {
  places : l.places.items ≡ l.fn.places.items ++ replicate l.counter l.place;
  count : length l.places.items ≡ length l.fn.places.items + l.counter;
  room : vec_capacity l.fn.places ≤ vec_capacity l.places;
}

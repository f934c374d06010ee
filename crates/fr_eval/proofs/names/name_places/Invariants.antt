use Rattle.std.proofs.Common.{◌≡◌, ℕ, List, [], take, drop}
use Rattle.fr_plain.specs.Blocks.{names_of, place_of}
use Rattle.fr_plain.specs.BlockNames.{first_repeat}
use Rattle.fr_eval.specs.NamePlaces.{place_at}
use Rattle.fr_eval.proofs.names.name_places.Given as goal

abbrev pub invariant-loop-i : goal.invariant-loop-i
invariant-loop-i l = record {
  known : (name : List ℕ) → place_at l.places name ≡ place_of (names_of (take l.i l.block)) name;
  rest : first_repeat [] l.block ≡ first_repeat (names_of (take l.i l.block)) (drop l.i l.block);
}

-- Free reductions.
use Rattle.std.proofs.Common.{◌≡◌, true, false, refl}
use Rattle.fr_model_examples.specs.ComputedSectionWords.{Reductions}

pub reductions : Reductions
reductions = record {
  pair = refl;
  nested_pairs = refl;
  nothing = refl;
  both_ways = refl;
  one_left = refl;
  around_a_pair = refl;
  is_reduced = (refl, (refl, tt));
  not_reduced = λ h. let e : true ≡ false = h.1.0 in cc;
}

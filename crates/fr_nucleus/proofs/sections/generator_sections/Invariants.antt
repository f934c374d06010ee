use Rattle.std.proofs.Common.{◌≡◌}
use Rattle.fr_nucleus.specs.Elements.{alphabet_of}
use Rattle.fr_nucleus.proofs.GeneratorLaws.{IsCollected}
use Rattle.fr_nucleus.proofs.sections.generator_sections.Given as goal

abbrev pub invariant-loop-g : goal.invariant-loop-g
invariant-loop-g l = record {
  alphabet : l.found.alphabet ≡ alphabet_of l.gens;
  rows : IsCollected l.gens l.found.rows l.g-index;
}

use Rattle.std.proofs.Common.{◌∙◌, sym}
use Rattle.fr_plain.proofs.PlainLaws.{scripts_same, passes_whole, whole_passes, census_once}
use Rattle.fr_plain.proofs.laws.plain_is_determined.Goals as goal

pub returns : goal.returns
returns c = record {
  one_text = λ bytes text other r s m n a b. a.text_is ∙ (scripts_same bytes text other r s m n a b).0 ∙ sym b.text_is;
  one_end = λ bytes text other r s m n a b. a.refused_is ∙ (scripts_same bytes text other r s m n a b).2 ∙ sym b.refused_is;
  one_charge = λ bytes text other r s m n a b. a.charge_is ∙ (scripts_same bytes text other r s m n a b).1 ∙ sym b.charge_is;
  passes = passes_whole;
  reaches = whole_passes;
  one_census = census_once;
}

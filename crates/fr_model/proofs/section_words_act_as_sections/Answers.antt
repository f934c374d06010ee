use Rattle.fr_model.proofs.FreeWordLaws.{alike_reduced, alike_section_word, IsReduced-reduced, reduced-kept, reduced-cancels, reduced-append_reduced, reduced-product_section}
use Rattle.fr_model.proofs.section_words_act_as_sections.Goals as goal

pub returns : goal.returns
returns c = record {
  of_reduced = λ d s fs h. alike_reduced d s h fs;
  of_section_word = λ d s fs v h. alike_section_word d s h fs v;
  is_reduced = IsReduced-reduced;
  kept = reduced-kept;
  cancels = reduced-cancels;
  reduced_part = reduced-append_reduced;
  at_letter = reduced-product_section;
}

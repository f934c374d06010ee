use Rattle.std.proofs.Common.{◌≡◌, map, take}
use Rattle.fr_block.specs.Blocks.{product_of}
use Rattle.fr_eval.specs.NamePlaces.{placed}
use Rattle.fr_eval.proofs.block.wreath.Given as goal

abbrev pub invariant-loop-word : goal.invariant-loop-word
invariant-loop-word l = map (λ section. product_of section.items) l.sections.items ≡ map (λ word. map (placed l.places) word) (take l.word-index l.words)

use Rattle.std.proofs.Common.{◌∙◌}
use Rattle.fr_layout.specs.Packs.{product_word}
use Rattle.fr_words_examples.proofs.Squares.{may_cache}
use Rattle.fr_words_examples.proofs.products.cache_product.Goals as goal

pub swap_cache-requires-clause-asks : goal.swap_cache-requires-clause-asks
swap_cache-requires-clause-asks c = may_cache c.args.words.now.plan _ _ _ _ _ _ _ _ _ _ c.product_word.result c.requires.first c.requires.second c.requires.third c.requires.product c.requires.few (c.product_word.ensures.value ∙ (λ i. product_word (c.number-a.ensures.0 i) (c.number-b.ensures.0 i) (c.number-c.ensures.0 i)))

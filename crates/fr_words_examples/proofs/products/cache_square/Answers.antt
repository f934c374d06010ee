use Rattle.fr_words_examples.proofs.Squares.{square, few}
use Rattle.fr_words_examples.proofs.products.cache_square.Goals as goal

pub cache_product-requires-clause-product : goal.cache_product-requires-clause-product
cache_product-requires-clause-product c = square c.args.words.now.plan.letters c.args.row.now c.requires.machine c.requires.identity

pub cache_product-requires-clause-few : goal.cache_product-requires-clause-few
cache_product-requires-clause-few c = few c.args.words.now.plan.letters c.args.row.now c.requires.machine c.requires.identity

-- Computed section words and free reductions.
use Rattle.std.specs.Prelude.{◌≡◌, List, [], ◌∷◌}
use Rattle.fr_model.specs.Systems.{Factor}
use Rattle.fr_model.specs.FreeWords.{reduced, IsReduced, section_word}
use Rattle.fr_model_examples.specs.Groups.{generator, inverse_generator, grigorchuk, grigorchuk_with_product, cancelling, doubling, ternary_products}

-- the product b*c*d of Grigorchuk's group
pub record GrigorchukSections : Type 0 where
  pub word_1 : ◌≡◌ {A = List Factor} (section_word grigorchuk (generator 1 ∷ generator 2 ∷ generator 3 ∷ []) (1 ∷ [])) (generator 0 ∷ generator 0 ∷ [])
  pub word_2 : ◌≡◌ {A = List Factor} (section_word grigorchuk (generator 1 ∷ generator 2 ∷ generator 3 ∷ []) (2 ∷ [])) (generator 2 ∷ generator 3 ∷ generator 1 ∷ [])

-- a section that is a product, and its inverse
pub record GrigorchukWithProductSections : Type 0 where
  pub word_1 : ◌≡◌ {A = List Factor} (section_word grigorchuk_with_product (generator 4 ∷ []) (1 ∷ [])) (generator 1 ∷ generator 2 ∷ [])
  pub word_2 : ◌≡◌ {A = List Factor} (section_word grigorchuk_with_product (generator 4 ∷ []) (1 ∷ 2 ∷ [])) (generator 2 ∷ generator 3 ∷ [])
  pub word_3 : ◌≡◌ {A = List Factor} (section_word grigorchuk_with_product (generator 4 ∷ []) (1 ∷ 2 ∷ 2 ∷ [])) (generator 3 ∷ generator 1 ∷ [])
  pub word_4 : ◌≡◌ {A = List Factor} (section_word grigorchuk_with_product (inverse_generator 4 ∷ []) (1 ∷ [])) (inverse_generator 2 ∷ inverse_generator 1 ∷ [])
  pub word_5 : ◌≡◌ {A = List Factor} (section_word grigorchuk_with_product (inverse_generator 4 ∷ inverse_generator 1 ∷ []) (1 ∷ 2 ∷ [])) (inverse_generator 3 ∷ inverse_generator 2 ∷ [])

-- what cancels goes before the next letter
pub record CancellingSections : Type 0 where
  pub word_1 : ◌≡◌ {A = List Factor} (section_word cancelling (generator 1 ∷ []) (2 ∷ [])) (generator 1 ∷ [])
  pub word_2 : ◌≡◌ {A = List Factor} (section_word cancelling (generator 1 ∷ []) (2 ∷ 1 ∷ [])) []
  pub word_3 : ◌≡◌ {A = List Factor} (section_word cancelling (inverse_generator 1 ∷ []) (1 ∷ [])) (inverse_generator 1 ∷ [])

-- a square
pub record DoublingSections : Type 0 where
  pub word_1 : ◌≡◌ {A = List Factor} (section_word doubling (generator 0 ∷ []) (1 ∷ [])) (generator 0 ∷ generator 0 ∷ [])
  pub word_2 : ◌≡◌ {A = List Factor} (section_word doubling (generator 0 ∷ []) (1 ∷ 1 ∷ [])) (generator 0 ∷ generator 0 ∷ [])
  pub word_3 : ◌≡◌ {A = List Factor} (section_word doubling (inverse_generator 0 ∷ []) (2 ∷ [])) (inverse_generator 0 ∷ inverse_generator 0 ∷ [])

-- products of names and inverses over three letters
pub record TernaryProductSections : Type 0 where
  pub word_1 : ◌≡◌ {A = List Factor} (section_word ternary_products (generator 0 ∷ []) (3 ∷ [])) (generator 0 ∷ generator 1 ∷ [])
  pub word_2 : ◌≡◌ {A = List Factor} (section_word ternary_products (generator 0 ∷ []) (3 ∷ 2 ∷ [])) (generator 1 ∷ [])
  pub word_3 : ◌≡◌ {A = List Factor} (section_word ternary_products (inverse_generator 0 ∷ []) (1 ∷ [])) (inverse_generator 1 ∷ inverse_generator 0 ∷ [])
  pub word_4 : ◌≡◌ {A = List Factor} (section_word ternary_products (inverse_generator 0 ∷ []) (1 ∷ 2 ∷ [])) (inverse_generator 1 ∷ [])
  pub word_5 : ◌≡◌ {A = List Factor} (section_word ternary_products (generator 1 ∷ inverse_generator 0 ∷ []) (2 ∷ [])) (inverse_generator 1 ∷ inverse_generator 0 ∷ [])
  pub word_6 : ◌≡◌ {A = List Factor} (section_word ternary_products (generator 1 ∷ inverse_generator 0 ∷ generator 1 ∷ []) (3 ∷ 1 ∷ [])) (generator 0 ∷ generator 0 ∷ inverse_generator 1 ∷ [])
  pub word_7 : ◌≡◌ {A = List Factor} (section_word ternary_products (inverse_generator 1 ∷ generator 0 ∷ generator 0 ∷ []) (1 ∷ 2 ∷ 3 ∷ [])) (generator 1 ∷ generator 1 ∷ [])
  pub word_8 : ◌≡◌ {A = List Factor} (section_word ternary_products (generator 0 ∷ inverse_generator 1 ∷ []) (2 ∷ [])) (generator 0 ∷ generator 1 ∷ [])
  pub word_9 : ◌≡◌ {A = List Factor} (section_word ternary_products (generator 1 ∷ []) (2 ∷ [])) (inverse_generator 1 ∷ inverse_generator 0 ∷ [])
  pub word_10 : ◌≡◌ {A = List Factor} (section_word ternary_products (generator 1 ∷ []) (2 ∷ 2 ∷ [])) (inverse_generator 1 ∷ [])

-- names next to their inverses go, also where others go between them
pub record Reductions : Type 0 where
  pub pair : ◌≡◌ {A = List Factor} (reduced (generator 0 ∷ inverse_generator 0 ∷ [])) []
  pub nested_pairs : ◌≡◌ {A = List Factor} (reduced (generator 0 ∷ generator 1 ∷ inverse_generator 1 ∷ inverse_generator 0 ∷ [])) []
  pub nothing : ◌≡◌ {A = List Factor} (reduced (generator 0 ∷ generator 1 ∷ inverse_generator 0 ∷ [])) (generator 0 ∷ generator 1 ∷ inverse_generator 0 ∷ [])
  pub both_ways : ◌≡◌ {A = List Factor} (reduced (inverse_generator 0 ∷ generator 0 ∷ generator 0 ∷ inverse_generator 0 ∷ generator 1 ∷ [])) (generator 1 ∷ [])
  pub one_left : ◌≡◌ {A = List Factor} (reduced (generator 1 ∷ generator 1 ∷ inverse_generator 1 ∷ inverse_generator 1 ∷ inverse_generator 1 ∷ [])) (inverse_generator 1 ∷ [])
  pub around_a_pair : ◌≡◌ {A = List Factor} (reduced (generator 0 ∷ inverse_generator 1 ∷ generator 1 ∷ inverse_generator 0 ∷ generator 2 ∷ [])) (generator 2 ∷ [])
  pub is_reduced : IsReduced (generator 0 ∷ generator 1 ∷ inverse_generator 0 ∷ [])
  pub not_reduced : ¬ IsReduced (generator 1 ∷ generator 0 ∷ inverse_generator 0 ∷ [])

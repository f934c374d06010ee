-- The laws of permutations, of the action and of acting alike, which the functions of this crate prove.
use Rattle.std.specs.Prelude.{ℕ, ◌≡◌, ◌↔◌, List, [], ◌∷◌, ◌++◌, length}
use Rattle.fr_model.specs.Words.{IsLetter, IsWord}
use Rattle.fr_model.specs.Permutations.{IsPermutation, image, preimage, identity_permutation, composite, inverse_permutation}
use Rattle.fr_model.specs.Systems.{System, wreath_at, section_at}
use Rattle.fr_model.specs.Terms.{Term, Name, Inverse, Product, Section, act, back, product_term, IsTerm, IsAlike}

-- permutations of d letters are closed under what is done with them, and each of these moves the letters as it should
pub record PermutationsMoveLetters : Type 0 where
  pub identity : (d : ℕ) → IsPermutation d (identity_permutation d) × ((x : ℕ) → image (identity_permutation d) x ≡ x)
  pub composites : (d : ℕ) (p q : List ℕ) → IsPermutation d p → IsPermutation d q → IsPermutation d (composite p q) × ((x : ℕ) → image (composite p q) x ≡ image q (image p x))
  pub inverses : (d : ℕ) (p : List ℕ) → IsPermutation d p → IsPermutation d (inverse_permutation p) × ((x : ℕ) → (image (inverse_permutation p) x ≡ preimage p x) × (preimage p (image p x) ≡ x))

-- a name moves the first letter by its permutation, and its section there acts on the rest
pub record ActsByRecursion : Type 0 where
  pub forwards : (s : System) (n x : ℕ) (w : List ℕ) → act (Name s n) (x ∷ w) ≡ image (wreath_at s n).perm x ∷ act (product_term s (section_at (wreath_at s n).sections x)) w
  pub backwards : (s : System) (n y : ℕ) (w : List ℕ) → back (Name s n) (y ∷ w) ≡ preimage (wreath_at s n).perm y ∷ back (product_term s (section_at (wreath_at s n).sections (preimage (wreath_at s n).perm y))) w

-- a term over d letters permutes the words of each length, and keeps what two words have in common at the front
pub record ActsOnTree : Type 0 where
  pub same_length : (t : Term) (w : List ℕ) → length (act t w) ≡ length w
  pub splits : (t : Term) (v w : List ℕ) → act t (v ++ w) ≡ act t v ++ act (Section t v) w
  pub words : (d : ℕ) (t : Term) → IsTerm d t → (w : List ℕ) → IsWord d w → IsWord d (act t w)
  pub undone : (d : ℕ) (t : Term) → IsTerm d t → (w : List ℕ) → back t (act t w) ≡ w
  pub redone : (d : ℕ) (t : Term) → IsTerm d t → (w : List ℕ) → act t (back t w) ≡ w

-- terms that act alike may stand for one another
pub record AlikeIsCongruence : Type 0 where
  pub reflexive : (t : Term) → IsAlike t t
  pub symmetric : (t u : Term) → IsAlike t u → IsAlike u t
  pub transitive : (t u r : Term) → IsAlike t u → IsAlike u r → IsAlike t r
  pub products : (t t' u u' : Term) → IsAlike t t' → IsAlike u u' → IsAlike (Product t u) (Product t' u')
  pub inverses : (d : ℕ) (t u : Term) → IsTerm d t → IsTerm d u → IsAlike t u → IsAlike (Inverse t) (Inverse u)
  pub sections : (t u : Term) (v : List ℕ) → IsAlike t u → IsAlike (Section t v) (Section u v)

-- the sections of sections, products and inverses
pub record SectionsByRules : Type 0 where
  pub of_section : (t : Term) (v w : List ℕ) → IsAlike (Section (Section t v) w) (Section t (v ++ w))
  pub of_product : (t u : Term) (v : List ℕ) → IsAlike (Section (Product t u) v) (Product (Section t v) (Section u (act t v)))
  pub of_inverse : (t : Term) (v : List ℕ) → IsAlike (Section (Inverse t) (act t v)) (Inverse (Section t v))

-- over d letters: the words decide, and so do the first letters with the sections at them
pub record AlikeIsDecidedByWords : Type 0 where
  pub by_words : (d : ℕ) (t u : Term) → IsTerm d t → IsTerm d u → IsAlike t u ↔ ((w : List ℕ) → IsWord d w → act t w ≡ act u w)
  pub by_letters : (d : ℕ) (t u : Term) → IsTerm d t → IsTerm d u → IsAlike t u ↔ ((x : ℕ) → IsLetter d x → (act t (x ∷ []) ≡ act u (x ∷ [])) × IsAlike (Section t (x ∷ [])) (Section u (x ∷ [])))

-- The laws of section words and of the constructed automata: each state acts as what it stands for.
use Rattle.std.specs.Prelude.{ℕ, ◌≡◌, ◌<◌, ◌≤◌, List, [], ◌∷◌, ◌++◌, length, slice_index, slice_index_or}
use Rattle.fr_model.specs.Systems.{Factor, System, IsSystem, inverse_factor, factor_section, factor_output, product_section}
use Rattle.fr_model.specs.Terms.{Name, Inverse, Product, Section, product_term, IsTerm, IsAlike}
use Rattle.fr_model.specs.FreeWords.{reduced, IsReduced, section_word, IsClosurePassed}
use Rattle.fr_model.specs.Automata.{State, state_term, state_after, IsAutomaton}
use Rattle.fr_model.specs.Words.{IsWord}
use Rattle.fr_model.specs.Constructions.{IsClosure, IsInverseOf, IsProductOf, IsNameAutomaton}

-- a section word acts as the section; free reduction keeps the action, leaves no name next to its inverse, keeps a
-- product in which none stands so, and does not see whether a name next to its inverse, or a part, went before
pub record SectionWordsActAsSections : Type 0 where
  pub of_reduced : (d : ℕ) (s : System) (fs : List Factor) → IsSystem d s → IsAlike (product_term s (reduced fs)) (product_term s fs)
  pub of_section_word : (d : ℕ) (s : System) (fs : List Factor) (v : List ℕ) → IsSystem d s → IsAlike (Section (product_term s fs) v) (product_term s (section_word s fs v))
  pub is_reduced : (fs : List Factor) → IsReduced (reduced fs)
  pub kept : (fs : List Factor) → IsReduced fs → reduced fs ≡ fs
  pub cancels : (fs : List Factor) (f : Factor) (gs : List Factor) → reduced (fs ++ f ∷ inverse_factor f ∷ gs) ≡ reduced (fs ++ gs)
  pub reduced_part : (fs gs : List Factor) → reduced (fs ++ reduced gs) ≡ reduced (fs ++ gs)
  pub at_letter : (s : System) (f : Factor) (fs : List Factor) (x : ℕ) → reduced (product_section s (f ∷ fs) x) ≡ reduced (factor_section s f x ++ reduced (product_section s fs (factor_output s f x)))

-- the states of the automata for section words, for the inverse and for the product act as the terms that they stand for
pub record ConstructionsActAsTerms : Type 0 where
  pub section : (d : ℕ) (qs : List State) (s : ℕ) (v : List ℕ) → IsAutomaton d qs → s < length qs → IsWord d v → IsAlike (Section (state_term qs s) v) (state_term qs (state_after qs s v))
  pub closure : (d : ℕ) (s : System) (products : List (List Factor)) (qs : List State) (i : ℕ) → IsSystem d s → IsClosure d s products qs → i < length qs → IsTerm d (product_term s (slice_index_or products i [])) → IsAlike (state_term qs i) (product_term s (slice_index_or products i []))
  pub name : (d : ℕ) (s : System) (n : ℕ) (products : List (List Factor)) (qs : List State) → IsSystem d s → n < length s → IsNameAutomaton d s n products qs → IsAlike (state_term qs 0) (Name s n)
  -- no name has both such an automaton within the limits and a closure that passes them
  pub within : (d : ℕ) (s : System) (n : ℕ) (products : List (List Factor)) (qs : List State) → IsNameAutomaton d s n products qs → length products ≤ 8192 → ((i : ℕ) → i < length products → length (slice_index_or products i []) ≤ 4096) → ¬ IsClosurePassed d s n
  pub inverse : (d : ℕ) (ps qs : List State) (i : ℕ) → IsAutomaton d ps → IsInverseOf d ps qs → i < length qs → IsAlike (state_term qs i) (Inverse (state_term ps i))
  pub product : (d : ℕ) (ps qs rs : List State) (lefts rights : List ℕ) (i : ℕ) → IsAutomaton d ps → IsAutomaton d qs → IsProductOf d ps qs lefts rights rs → i < length rs → IsAlike (state_term rs i) (Product (state_term ps (slice_index lefts i)) (state_term qs (slice_index rights i)))

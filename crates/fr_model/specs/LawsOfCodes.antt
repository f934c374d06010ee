-- The laws of the canonical numbering and of separating words: each is determined by how its terms act, and decides it.
use Rattle.std.specs.Prelude.{ℕ, ◌≡◌, ◌↔◌, List, length, Option}
use Rattle.fr_model.specs.Terms.{Term, IsTerm, IsAlike}
use Rattle.fr_model.specs.Automata.{State, state_term}
use Rattle.fr_model.specs.Classes.{IsSize}
use Rattle.fr_model.specs.Canonical.{IsCanonical, IsCode}
use Rattle.fr_model.specs.Separation.{IsSeparatingWord, IsSeparation}

-- terms that act alike have one canonical automaton, which acts as they do from its first state and has a state for
-- each section; their codes are equal exactly where they act alike
pub record CodesDecideAlike : Type 0 where
  pub one_automaton : (d : ℕ) (t u : Term) (ps qs : List State) → IsAlike t u → IsCanonical d t ps → IsCanonical d u qs → ps ≡ qs
  pub stands : (d : ℕ) (t : Term) (qs : List State) → IsTerm d t → IsCanonical d t qs → IsAlike t (state_term qs 0)
  pub size : (d : ℕ) (t : Term) (qs : List State) → IsCanonical d t qs → IsSize d t (length qs)
  pub codes : (d : ℕ) (t u : Term) (a b : List ℕ) → IsTerm d t → IsTerm d u → IsCode d t a → IsCode d u b → (a ≡ b) ↔ IsAlike t u
  pub alike_automata : (d : ℕ) (t u : Term) (qs : List State) → IsAlike t u → IsCanonical d t qs → IsCanonical d u qs
  pub alike_codes : (d : ℕ) (t u : Term) (a : List ℕ) → IsAlike t u → IsCode d t a → IsCode d u a

-- two terms have one separation: a word, where they do not act alike, or none, where they do
pub record SeparationsAreDetermined : Type 0 where
  pub one_answer : (d : ℕ) (t u : Term) (a b : Option (List ℕ)) → IsSeparation d t u a → IsSeparation d t u b → a ≡ b
  pub one_word : (d : ℕ) (t u : Term) (v w : List ℕ) → IsSeparatingWord d t u v → IsSeparatingWord d t u w → v ≡ w
  pub unlike : (d : ℕ) (t u : Term) (w : List ℕ) → IsSeparatingWord d t u w → ¬ IsAlike t u
  pub alike_answers : (d : ℕ) (t t' u u' : Term) (a : Option (List ℕ)) → IsAlike t t' → IsAlike u u' → IsSeparation d t u a → IsSeparation d t' u' a

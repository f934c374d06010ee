-- Automata that stand for section words, inverses and products (Grigorchuk, Nekrashevych and Sushchanskii, Automata,
-- dynamical systems, and groups).
use Rattle.std.specs.Prelude.{ℕ, ◌≡◌, ◌<◌, List, [], length, slice_index, slice_index_or}
use Rattle.fr_model.specs.Words.{IsLetter}
use Rattle.fr_model.specs.Permutations.{image, preimage}
use Rattle.fr_model.specs.Systems.{Factor, System, product_output, product_section}
use Rattle.fr_model.specs.FreeWords.{reduced, IsSectionWord}
use Rattle.fr_model.specs.Automata.{State, state_at, next_state, one_name, IsAutomaton}
use Rattle.fr_model.specs.Classes.{IsClassList}

-- the states stand for these products of names, in order, and each next state is one of them
pub record IsClosure (d : ℕ) (s : System) (products : List (List Factor)) (qs : List State) : Type 0 where
  pub automaton : IsAutomaton d qs
  pub count : length qs ≡ length products
  pub outputs : (i x : ℕ) → i < length qs → IsLetter d x → image (state_at qs i).perm x ≡ product_output s (slice_index_or products i []) x
  pub nexts : (i x : ℕ) → i < length qs → IsLetter d x → slice_index_or products (next_state qs i x) [] ≡ reduced (product_section s (slice_index_or products i []) x)

-- each state of the second stands for the inverse of the state of the first
pub record IsInverseOf (d : ℕ) (ps qs : List State) : Type 0 where
  pub automaton : IsAutomaton d qs
  pub count : length qs ≡ length ps
  pub outputs : (i y : ℕ) → i < length qs → IsLetter d y → image (state_at qs i).perm y ≡ preimage (state_at ps i).perm y
  pub nexts : (i y : ℕ) → i < length qs → IsLetter d y → next_state qs i y ≡ next_state ps i (preimage (state_at ps i).perm y)

-- each state of the third stands for the product of a state of the first and one of the second
pub record IsProductOf (d : ℕ) (ps qs : List State) (lefts rights : List ℕ) (rs : List State) : Type 0 where
  pub automaton : IsAutomaton d rs
  pub left_count : length lefts ≡ length rs
  pub right_count : length rights ≡ length rs
  pub lefts_below : (i : ℕ) → i < length rs → slice_index lefts i < length ps
  pub rights_below : (i : ℕ) → i < length rs → slice_index rights i < length qs
  pub outputs : (i x : ℕ) → i < length rs → IsLetter d x → image (state_at rs i).perm x ≡ image (state_at qs (slice_index rights i)).perm (image (state_at ps (slice_index lefts i)).perm x)
  pub next_lefts : (i x : ℕ) → i < length rs → IsLetter d x → slice_index lefts (next_state rs i x) ≡ next_state ps (slice_index lefts i) x
  pub next_rights : (i x : ℕ) → i < length rs → IsLetter d x → slice_index rights (next_state rs i x) ≡ next_state qs (slice_index rights i) (image (state_at ps (slice_index lefts i)).perm x)

-- the automaton of a name: one state for each section word, the name itself first
pub record IsNameAutomaton (d : ℕ) (s : System) (n : ℕ) (products : List (List Factor)) (qs : List State) : Type 0 where
  pub closure : IsClosure d s products qs
  pub first : slice_index_or products 0 [] ≡ one_name n
  pub one_each : IsClassList (IsSectionWord d s n) (λ f g. f ≡ g) products

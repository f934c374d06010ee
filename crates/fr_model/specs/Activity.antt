-- The growth of activity: finitary, exponential and polynomial terms (Sidki, Automorphisms of one-rooted trees: growth,
-- circuit structure, and acyclicity). The least triple and the chains are this project's own forms of his circuits.
use Rattle.std.specs.Prelude.{ℕ, suc, ◌≡◌, ◌≢◌, ◌<◌, ◌⊎◌, List, [], ◌∷◌, length}
use Rattle.fr_model.specs.Words.{IsWord}
use Rattle.fr_model.specs.Terms.{Term, One, Section, IsAlike}
use Rattle.fr_model.specs.Classes.{IsClassCount}
use Rattle.fr_model.specs.Separation.{IsShortlexBefore}

-- a word of length n at which t is active
pub record IsActive (d n : ℕ) (t : Term) (v : List ℕ) : Type 0 where
  pub valid : IsWord d v
  pub long : length v ≡ n
  pub moved : ¬ IsAlike (Section t v) One

-- t is active at so many words of length n
abbrev pub IsActivity : ℕ → ℕ → Term → ℕ → Type 0
IsActivity d n t count = IsClassCount (IsActive d n t) (λ v w. v ≡ w) count

-- t is active at no word of length n
abbrev pub IsInactive : ℕ → ℕ → Term → Type 0
IsInactive d n t = (v : List ℕ) → IsWord d v → length v ≡ n → IsAlike (Section t v) One

-- finitary of a depth: the least length at whose words t is not active
pub record IsFinitary (d : ℕ) (t : Term) (depth : ℕ) : Type 0 where
  pub inactive : IsInactive d depth t
  pub least : (n : ℕ) → n < depth → (v : List ℕ) × IsActive d n t v

-- two different words of one length lead back to the section at a word, which moves some word
pub record IsExponentialAt (d : ℕ) (t : Term) (at u v : List ℕ) : Type 0 where
  pub at_valid : IsWord d at
  pub u_valid : IsWord d u
  pub v_valid : IsWord d v
  pub moved : ¬ IsAlike (Section t at) One
  pub differ : u ≢ v
  pub one_length : length u ≡ length v
  pub u_back : IsAlike (Section (Section t at) u) (Section t at)
  pub v_back : IsAlike (Section (Section t at) v) (Section t at)

-- the shortlex least word that has such a triple; the least length at which two words lead back; of the words of
-- that length that lead back, u is the first and v the second in shortlex order
pub record IsLeastTriple (d : ℕ) (t : Term) (at u v : List ℕ) : Type 0 where
  pub triple : IsExponentialAt d t at u v
  pub least_at : (at' u' v' : List ℕ) → IsShortlexBefore at' at → ¬ IsExponentialAt d t at' u' v'
  pub least_length : (u' v' : List ℕ) → length u' < length u → ¬ IsExponentialAt d t at u' v'
  pub ordered : IsShortlexBefore u v
  pub first_two : (w : List ℕ) → IsWord d w → length w ≡ length u → IsAlike (Section (Section t at) w) (Section t at) → (w ≡ u) ⊎ ((w ≡ v) ⊎ IsShortlexBefore v w)

-- a member of a chain: the word to it from the member before, and a word from it back to itself
pub record Link : Type 0 where
  pub at : List ℕ
  pub back : List ℕ

-- no section of the next member acts like h
abbrev pub NoReturn : ℕ → Term → List Link → Type 0
NoReturn d h [] = Unit {0}
NoReturn d h (m ∷ ms) = (v : List ℕ) → IsWord d v → ¬ IsAlike (Section (Section h m.at) v) h

-- a chain of sections, each on a cycle, with no way back from one to the one before
abbrev pub IsChain : ℕ → Term → List Link → Type 0
IsChain d t [] = Unit {0}
IsChain d t (l ∷ ls) =
    IsWord d l.at × IsWord d l.back × (l.back ≢ []) × (¬ IsAlike (Section t l.at) One)
    × IsAlike (Section (Section t l.at) l.back) (Section t l.at)
    × NoReturn d (Section t l.at) ls × IsChain d (Section t l.at) ls

-- neither finitary nor exponential, with a chain of k + 1 members and none of k + 2
pub record HasDegree (d : ℕ) (t : Term) (k : ℕ) : Type 0 where
  pub infinitary : (n : ℕ) → ¬ IsInactive d n t
  pub subexponential : (at u v : List ℕ) → ¬ IsExponentialAt d t at u v
  pub chain : (ls : List Link) × (length ls ≡ suc k) × IsChain d t ls
  pub longest : (ls : List Link) → IsChain d t ls → length ls < suc (suc k)

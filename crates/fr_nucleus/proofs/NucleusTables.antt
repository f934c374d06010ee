-- Tables from which a nucleus and its depth are read: the premises of the laws of nuclei.
use Rattle.std.proofs.Common.{ℕ, suc, ◌≡◌, ◌≤◌, List, length}
use Rattle.std.specs.List.{Contains}
use Rattle.fr_model.specs.Words.{IsWord}
use Rattle.fr_model.specs.Terms.{Term, One, Product, Section, IsTerm, IsAlike}
use Rattle.fr_model.specs.Automata.{State, state_term, IsLimitStateFrom}
use Rattle.fr_model.specs.Nuclei.{IsNucleusMember}
use Rattle.fr_model.proofs.LimitStateLaws.{IsMachineOf}

-- t acts alike a member of the list
abbrev pub IsHeld : List Term → Term → Type 0
IsHeld ns t = (h : Term) × Contains ns h × IsAlike t h

-- each section of t at a word of length k or more acts alike a member of the list
abbrev pub IsHeldFrom : ℕ → List Term → Term → ℕ → Type 0
IsHeldFrom d ns t k = (v : List ℕ) → IsWord d v → k ≤ length v → IsHeld ns (Section t v)

-- terms over d letters, 1 among them; the sections of each are alike members
pub record IsClosedSet (d : ℕ) (Q : Term → Type 0) : Type 0 where
  pub terms : (q : Term) → Q q → IsTerm d q
  pub one : Q One
  pub sections : (q : Term) → Q q → (v : List ℕ) → IsWord d v → (r : Term) × Q r × IsAlike (Section q v) r

-- each member of Q is alike a member of the list
abbrev pub IsListed : (Term → Type 0) → List Term → Type 0
IsListed Q qs = (q : Term) → Q q → IsHeld qs q

-- each member of the list is alike a member of Q
abbrev pub IsInside : (Term → Type 0) → List Term → Type 0
IsInside Q qs = (r : Term) → Contains qs r → (q : Term) × Q q × IsAlike r q

-- a machine of t, each of whose limit states acts alike a member of the list
pub record HasLimitsIn (d : ℕ) (ns : List Term) (t : Term) : Type 0 where
  pub states : List State
  pub start : ℕ
  pub machine : IsMachineOf d t states start
  pub held : (r : ℕ) → IsLimitStateFrom d states start r → IsHeld ns (state_term states r)

-- a list of a set, and a list of members of the nucleus that holds the limit states of all its products
pub record IsNucleusTable (d : ℕ) (Q : Term → Type 0) (qs ns : List Term) : Type 0 where
  pub listed : IsListed Q qs
  pub generators : (q : Term) → Contains qs q → HasLimitsIn d ns q
  pub products : (n q : Term) → Contains ns n → Contains qs q → HasLimitsIn d ns (Product n q)
  pub members : (n : Term) → Contains ns n → IsNucleusMember d Q n

-- at length k each section of a product is held, and one at the length before is not
pub record IsDepthTable (d : ℕ) (qs ns : List Term) (k : ℕ) : Type 0 where
  pub within : (n q : Term) → Contains ns n → Contains qs q → (v : List ℕ) → IsWord d v → length v ≡ k → IsHeld ns (Section (Product n q) v)
  pub last : (j : ℕ) → k ≡ suc j → (n : Term) × (q : Term) × (v : List ℕ) × Contains ns n × Contains qs q × IsWord d v × (length v ≡ j) × ¬ IsHeld ns (Section (Product n q) v)

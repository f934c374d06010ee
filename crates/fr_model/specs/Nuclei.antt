-- Limit sections, and the nucleus of the group that some elements and all their sections generate (Nekrashevych,
-- Self-Similar Groups, chapter 2). The depth as it is counted here is this project's own.
use Rattle.std.specs.Prelude.{ℕ, ◌≡◌, ◌<◌, ◌≤◌, List, length}
use Rattle.std.specs.Prelude.{Contains}
use Rattle.fr_model.specs.Words.{IsWord}
use Rattle.fr_model.specs.Terms.{Term, One, Inverse, Product, Section, IsAlike}

-- h is a section of t at words of unbounded length
abbrev pub IsLimitSection : ℕ → Term → Term → Type 0
IsLimitSection d t h = (n : ℕ) → (v : List ℕ) × IsWord d v × (n ≤ length v) × IsAlike (Section t v) h

-- 1, the sections of the generators and those of their inverses
pub data IsGeneratorSection (d : ℕ) (gens : List Term) : Term → Type 0 where
  one : IsGeneratorSection d gens One
  section : {g : Term} → Contains gens g → (v : List ℕ) → IsWord d v → IsGeneratorSection d gens (Section g v)
  inverse : {g : Term} → Contains gens g → (v : List ℕ) → IsWord d v → IsGeneratorSection d gens (Section (Inverse g) v)

-- the members of N(Q): limit sections of members of Q, and of products of a member of N(Q) and one of Q
pub data IsNucleusMember (d : ℕ) (Q : Term → Type 0) : Term → Type 0 where
  of_generator : {q h : Term} → Q q → IsLimitSection d q h → IsNucleusMember d Q h
  of_product : {g q h : Term} → IsNucleusMember d Q g → Q q → IsLimitSection d (Product g q) h → IsNucleusMember d Q h

-- the products of lists of members of Q
pub data IsGroupElement (Q : Term → Type 0) : Term → Type 0 where
  none : IsGroupElement Q One
  more : {p q : Term} → IsGroupElement Q p → Q q → IsGroupElement Q (Product p q)

-- a list that holds each section, up to acting alike, from some length on
abbrev pub IsAbsorbing : ℕ → (Term → Type 0) → List Term → Type 0
IsAbsorbing d Q ns = (p : Term) → IsGroupElement Q p → (n : ℕ) × ((v : List ℕ) → IsWord d v → n ≤ length v → (h : Term) × Contains ns h × IsAlike (Section p v) h)

-- the smallest list, up to acting alike, that holds the sections of each product of members of Q from some length on
pub record IsNucleus (d : ℕ) (Q : Term → Type 0) (ns : List Term) : Type 0 where
  pub absorbs : IsAbsorbing d Q ns
  pub smallest : (ms : List Term) → IsAbsorbing d Q ms → (n : Term) → Contains ns n → (m : Term) × Contains ms m × IsAlike n m

-- the least length at which all sections of a product of a member and one of Q are members
pub record IsNucleusDepth (d : ℕ) (Q : Term → Type 0) (k : ℕ) : Type 0 where
  pub within : (n q : Term) → IsNucleusMember d Q n → Q q → (v : List ℕ) → IsWord d v → length v ≡ k → IsNucleusMember d Q (Section (Product n q) v)
  pub least : (j : ℕ) → j < k → (n : Term) × (q : Term) × (v : List ℕ) × IsNucleusMember d Q n × Q q × IsWord d v × (length v ≡ j) × ¬ IsNucleusMember d Q (Section (Product n q) v)

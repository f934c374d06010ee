-- The laws of activity: a term belongs to one class of growth at most, whose numbers are determined by how it acts.
use Rattle.std.specs.Prelude.{ℕ, ◌≡◌, List}
use Rattle.fr_model.specs.Terms.{Term, IsAlike}
use Rattle.fr_model.specs.Activity.{IsActivity, IsFinitary, IsExponentialAt, IsLeastTriple, HasDegree}

-- a depth, a degree, a least triple and an activity are unique, and no term has two of the first three
pub record GrowthIsOneClass : Type 0 where
  pub one_activity : (d n : ℕ) (t : Term) (a b : ℕ) → IsActivity d n t a → IsActivity d n t b → a ≡ b
  pub one_depth : (d : ℕ) (t : Term) (m n : ℕ) → IsFinitary d t m → IsFinitary d t n → m ≡ n
  pub one_degree : (d : ℕ) (t : Term) (k l : ℕ) → HasDegree d t k → HasDegree d t l → k ≡ l
  pub one_triple : (d : ℕ) (t : Term) (at u v at' u' v' : List ℕ) → IsLeastTriple d t at u v → IsLeastTriple d t at' u' v' → (at ≡ at') × (u ≡ u') × (v ≡ v')
  pub finitary_or_exponential : (d : ℕ) (t : Term) (n : ℕ) (at u v : List ℕ) → IsFinitary d t n → ¬ IsExponentialAt d t at u v
  pub finitary_or_polynomial : (d : ℕ) (t : Term) (n k : ℕ) → IsFinitary d t n → ¬ HasDegree d t k
  pub exponential_or_polynomial : (d : ℕ) (t : Term) (at u v : List ℕ) (k : ℕ) → IsExponentialAt d t at u v → ¬ HasDegree d t k

-- terms that act alike grow alike
pub record AlikeGrowAlike : Type 0 where
  pub activities : (d n : ℕ) (t u : Term) (a : ℕ) → IsAlike t u → IsActivity d n t a → IsActivity d n u a
  pub depths : (d : ℕ) (t u : Term) (n : ℕ) → IsAlike t u → IsFinitary d t n → IsFinitary d u n
  pub triples : (d : ℕ) (t u : Term) (at v w : List ℕ) → IsAlike t u → IsLeastTriple d t at v w → IsLeastTriple d u at v w
  pub degrees : (d : ℕ) (t u : Term) (k : ℕ) → IsAlike t u → HasDegree d t k → HasDegree d u k

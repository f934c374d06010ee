-- Classes of growth: finitary, bounded and exponential elements.
use Rattle.std.specs.Prelude.{ℕ, List, [], ◌∷◌}
use Rattle.fr_model.specs.Words.{IsWord}
use Rattle.fr_model.specs.Terms.{Term, One, Name, Section, IsAlike}
use Rattle.fr_model.specs.Activity.{IsActive, IsActivity, IsFinitary, IsExponentialAt, IsLeastTriple, Link, NoReturn, HasDegree}
use Rattle.fr_model_examples.specs.Groups.{adding_machine, grigorchuk, linear_growth, lamplighter, second_swap}

-- the swap of the second letter is active at both words of one letter
pub record SecondSwapIsActive : Type 0 where
  pub two : IsActivity 2 1 (Name second_swap 0) 2
  pub not_one : ¬ IsActivity 2 1 (Name second_swap 0) 1
  pub at_one : IsActive 2 1 (Name second_swap 0) (1 ∷ [])
  pub not_at_longer : ¬ IsActive 2 1 (Name second_swap 0) (1 ∷ 1 ∷ [])
  pub not_the_first : ¬ IsActive 2 1 (Name grigorchuk 0) (1 ∷ [])

-- the swap of the first letter has depth 1 and the identity has depth 0
pub record SwapIsFinitary : Type 0 where
  pub one : IsFinitary 2 (Name grigorchuk 0) 1
  pub not_zero : ¬ IsFinitary 2 (Name grigorchuk 0) 0
  pub not_two : ¬ IsFinitary 2 (Name grigorchuk 0) 2
  pub identity : IsFinitary 2 One 0

-- the adding machine is bounded; in a chain a later member than the next does not lead back either
pub record AddingMachineIsBounded : Type 0 where
  pub bounded : HasDegree 2 (Name adding_machine 0) 0
  pub not_linear : ¬ HasDegree 2 (Name adding_machine 0) 1
  pub not_finitary : (n : ℕ) → ¬ IsFinitary 2 (Name adding_machine 0) n
  pub later : (h : Term) (m k : Link) (w : List ℕ) → NoReturn 2 h (m ∷ k ∷ []) → IsWord 2 k.at → IsWord 2 w → ¬ IsAlike (Section (Section (Section h m.at) k.at) w) h

-- s = <s,t> over the adding machine t is of linear growth: its chain is s, then t
pub record LinearGrowthIsLinear : Type 0 where
  pub linear : HasDegree 2 (Name linear_growth 0) 1
  pub not_bounded : ¬ HasDegree 2 (Name linear_growth 0) 0
  pub not_2 : ¬ HasDegree 2 (Name linear_growth 0) 2

-- p of the lamplighter group is exponential: of its many triples one is the least
pub record LamplighterIsExponential : Type 0 where
  pub least : IsLeastTriple 2 (Name lamplighter 0) [] (1 ∷ 2 ∷ []) (2 ∷ 2 ∷ [])
  pub not_turned : ¬ IsLeastTriple 2 (Name lamplighter 0) [] (2 ∷ 2 ∷ []) (1 ∷ 2 ∷ [])
  pub not_longer : ¬ IsLeastTriple 2 (Name lamplighter 0) [] (1 ∷ 1 ∷ 2 ∷ []) (2 ∷ 2 ∷ 2 ∷ [])
  pub turned_is_some : IsExponentialAt 2 (Name lamplighter 0) [] (2 ∷ 2 ∷ []) (1 ∷ 2 ∷ [])
  pub not_shorter : ¬ IsExponentialAt 2 (Name lamplighter 0) [] (1 ∷ []) (2 ∷ [])
  pub longer_is_some : IsExponentialAt 2 (Name lamplighter 0) [] (1 ∷ 1 ∷ 2 ∷ []) (2 ∷ 2 ∷ 2 ∷ [])

-- the number of letters belongs to the term: over the first letter alone the adding machine looks finitary
pub record LettersBelongToTerms : Type 0 where
  pub over_one_letter : IsFinitary 1 (Name adding_machine 0) 1

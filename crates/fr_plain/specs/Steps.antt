-- The steps of an evaluation: what each makes, what it is charged, and when it is refused. The charge and the limits are
-- this project's own.
use Rattle.std.specs.Prelude.{ℕ, ◌≡◌, ◌⊎◌, ◌+◌, ◌≤◌, List, [], ◌∷◌, ◌++◌, Option, Some, None}
use Rattle.fr_model.specs.Systems.{System}
use Rattle.fr_model.specs.Terms.{Term, One, Name, Inverse, Product, Section}
use Rattle.fr_model.specs.Classes.{IsSize, HasMoreStates, HasFewPairs, HasMorePairs}
use Rattle.fr_model.specs.FreeWords.{IsClosurePassed}
use Rattle.fr_script.specs.declared.fault.LineFault.{LineFault}
use Rattle.fr_script.specs.declared.fault.LineFault.TheVariants as f

pub data Step : Type 0 where
  -- what a name is bound to above the line, or nothing
  Looked : Option Term → Step
  -- the identity
  Identity : Step
  -- the inverse of an element
  Inverted : Term → Step
  -- the product, first the one and then the other
  Multiplied : Term → Term → Step
  -- the section at a word
  Restricted : Term → List ℕ → Step
  -- a name of a block
  Defined : System → ℕ → Step
  -- a member of a nucleus
  Listed : Term → Step

-- what a step makes
abbrev pub value_of : Step → Term
value_of (Looked None) = One
value_of (Looked (Some t)) = t
value_of Identity = One
value_of (Inverted t) = Inverse t
value_of (Multiplied t u) = Product t u
value_of (Restricted t w) = Section t w
value_of (Defined s k) = Name s k
value_of (Listed t) = t

-- an element of so many states, which are at most 1,024
abbrev pub HasStates : ℕ → Term → ℕ → Type 0
HasStates d t n = (n ≤ 1024) × IsSize d t n

-- the step is evaluated over d letters, and is charged so much
abbrev pub IsCharged : ℕ → Step → ℕ → Type 0
IsCharged d (Looked None) n = ⊥
IsCharged d (Looked (Some t)) n = n ≡ 0
IsCharged d Identity n = n ≡ 1
IsCharged d (Inverted t) n = IsSize d (Inverse t) n
IsCharged d (Multiplied t u) n = HasFewPairs d t u × HasStates d (Product t u) n
IsCharged d (Restricted t w) n = n ≡ 0
IsCharged d (Defined s k) n = (¬ IsClosurePassed d s k) × HasStates d (Name s k) n
IsCharged d (Listed t) n = IsSize d t n

-- the step is refused with this fault
abbrev pub IsRefused : ℕ → Step → LineFault → Type 0
IsRefused d (Looked None) fault = fault ≡ f.UnknownName
IsRefused d (Looked (Some t)) fault = ⊥
IsRefused d Identity fault = ⊥
IsRefused d (Inverted t) fault = ⊥
IsRefused d (Multiplied t u) fault = (HasMorePairs d t u 65536 × (fault ≡ f.PairsPassed)) ⊎ (HasFewPairs d t u × HasMoreStates d (Product t u) 1024 × (fault ≡ f.StatesPassed))
IsRefused d (Restricted t w) fault = ⊥
IsRefused d (Defined s k) fault = (IsClosurePassed d s k × (fault ≡ f.ClosurePassed)) ⊎ ((¬ IsClosurePassed d s k) × HasMoreStates d (Name s k) 1024 × (fault ≡ f.StatesPassed))
IsRefused d (Listed t) fault = ⊥

-- all steps are evaluated, and are charged so much together
abbrev pub AreEvaluated : ℕ → List Step → ℕ → Type 0
AreEvaluated d [] n = n ≡ 0
AreEvaluated d (s ∷ ss) n = (a : ℕ) × (b : ℕ) × IsCharged d s a × AreEvaluated d ss b × (n ≡ a + b)

-- some first ones of these steps are evaluated, which are charged n together, and the next one is refused with the fault
pub record AreStopped (d : ℕ) (steps done : List Step) (n : ℕ) (fault : LineFault) : Type 0 where
  pub next : Step
  pub rest : List Step
  pub all : steps ≡ done ++ next ∷ rest
  pub evaluated : AreEvaluated d done n
  pub refused : IsRefused d next fault

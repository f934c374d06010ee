-- When the handles of a store are those of what steps hold. This project's own.
use Rattle.std.specs.Prelude.{ℕ, ◌≡◌, List, [], ◌++◌, map, Option, None, Contains}
use Rattle.fr_model.specs.Terms.{Term}
use Rattle.fr_store.specs.declared.handle.Handle.{Handle}
use Rattle.fr_store.specs.Store.{StandsForTerm, AreHandles, IsHandleCount, GrowsBy}
use Rattle.fr_plain.specs.Steps.{Step, value_of}
use Rattle.fr_plain.specs.Held.{IsHeld, HoldsClasses}
use Rattle.fr_expr.specs.Evaluation.{HaveHandles}

-- what each of the steps makes has a handle, and each handle is that of something that they hold
pub record KnowsHeld (d : ℕ) (known : ℕ → Option (List ℕ)) (steps : List Step) : Type 0 where
  pub handles : HaveHandles d known steps
  pub only : (h : Handle) (t : Term) → StandsForTerm d known h t → IsHeld d steps t

-- this holds of a store that knows nothing, and goes on holding where further steps are made. It does not depend on the order
-- of the steps. Then the handles are as many as the elements that the steps hold, up to acting alike
pub record HandlesCountHeld : Type 0 where
  pub begins : (d : ℕ) (known : ℕ → Option (List ℕ)) → ((n : ℕ) → known n ≡ None) → KnowsHeld d known []
  pub goes_on : (d : ℕ) (old new : ℕ → Option (List ℕ)) (done more : List Step) → KnowsHeld d old done → GrowsBy d old new (map value_of more) → HaveHandles d new more → KnowsHeld d new (done ++ more)
  pub any_order : (d : ℕ) (known : ℕ → Option (List ℕ)) (steps others : List Step) → ((s : Step) → Contains steps s → Contains others s) → ((s : Step) → Contains others s → Contains steps s) → KnowsHeld d known steps → KnowsHeld d known others
  pub counts : (d : ℕ) (known : ℕ → Option (List ℕ)) (steps : List Step) (count : ℕ) → AreHandles d known → KnowsHeld d known steps → IsHandleCount known count → HoldsClasses d steps count

-- What the bound names stand for at a line.
use Rattle.std.specs.Prelude.{ℕ, List, [], ◌∷◌, Option, Some, None, IfSome, nat_lt, if◌then◌else◌}
use Rattle.fr_model.specs.Terms.{Term}
use Rattle.fr_store.specs.declared.handle.Handle.{Handle}
use Rattle.fr_store.specs.Store.{IsKnown, StandsForTerm}
use Rattle.fr_plain.specs.Scopes.{Scope, bound}
use Rattle.fr_expr.specs.declared.env.Binding.{Binding}

-- what is bound by each name, in the order of lines
abbrev pub Names : Type 0
Names = List ℕ → List Binding

-- the first that there is
abbrev pub either : Option Handle → Option Handle → Option Handle
either (Some h) other = Some h
either None other = other

-- the handle of the last binding above a line
abbrev pub above : ℕ → List Binding → Option Handle
above line [] = None
above line (b ∷ bs) = either (above line bs) (if nat_lt b.line line then Some b.handle else None)

-- a handle of the element of a term, or neither
abbrev pub Matches : ℕ → (ℕ → Option (List ℕ)) → Option Handle → Option Term → Type 0
Matches d known (Some h) (Some t) = StandsForTerm d known h t
Matches d known None None = Unit {0}
Matches d known (Some h) None = ⊥
Matches d known None (Some t) = ⊥

-- at a line each name has the handle of what is bound in the scope, and no other name has one
pub record AreNames (d : ℕ) (known : ℕ → Option (List ℕ)) (names : Names) (line : ℕ) (scope : Scope) : Type 0 where
  pub at : (name : List ℕ) → Matches d known (above line (names name)) (bound scope name)

-- each handle that is bound above a line is known
abbrev pub AreBound : (ℕ → Option (List ℕ)) → Names → ℕ → Type 0
AreBound known names line = (name : List ℕ) → IfSome (above line (names name)) (λ h. IsKnown known h)

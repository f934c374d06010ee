-- The names that are bound above a line, with the terms that they stand for. A line sees of each name the last
-- binding above it.
use Rattle.std.specs.Prelude.{ℕ, suc, if◌then◌else◌, List, [], ◌∷◌, Option, Some, None}
use Rattle.std.specs.Str.{bytes_eq}
use Rattle.fr_model.specs.Systems.{System}
use Rattle.fr_model.specs.Terms.{Term, Name}

-- a name and what it stands for
pub record Binding : Type 0 where
  pub name : List ℕ
  pub term : Term

-- the bindings above a line, the last one first
abbrev pub Scope : Type 0
Scope = List Binding

-- the term of the last binding of a name
abbrev pub bound : Scope → List ℕ → Option Term
bound [] name = None
bound (b ∷ bs) name = if bytes_eq b.name name then Some b.term else bound bs name

-- the names of a system, from the place k on, bound above the others
abbrev pub bind_names : System → ℕ → List (List ℕ) → Scope → Scope
bind_names s k [] scope = scope
bind_names s k (name ∷ names) scope = bind_names s (suc k) names (record { name = name; term = Name s k } ∷ scope)

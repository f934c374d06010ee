-- What a line adds to the bindings of names.
use Rattle.std.specs.Prelude.{ℕ, suc, ◌≡◌, ◌<◌, List, [], ◌∷◌, ◌++◌, Option}
use Rattle.std.specs.List.{All}
use Rattle.fr_model.specs.Systems.{System}
use Rattle.fr_model.specs.Terms.{Term, Name}
use Rattle.fr_syntax.specs.declared.statement.Statement.{Statement}
use Rattle.fr_syntax.specs.declared.statement.Statement.TheVariants as st
use Rattle.fr_store.specs.declared.handle.Handle.{Handle}
use Rattle.fr_store.specs.Store.{IsKnown}
use Rattle.fr_plain.specs.Scopes.{Scope}
use Rattle.fr_plain.specs.Blocks.{names_of, block_system}
use Rattle.fr_plain.specs.Expansions.{expansion}
use Rattle.fr_expr.specs.declared.env.Binding.{Binding}
use Rattle.fr_expr.specs.Names.{Names}
use Rattle.fr_expr.specs.Tables.{bindings_of}
use Rattle.fr_eval.specs.Generators.{StandForAll}

-- each handle that is bound is known
abbrev pub AreAllKnown : (ℕ → Option (List ℕ)) → Names → Type 0
AreAllKnown known names = (name : List ℕ) → All (λ b. IsKnown known b.handle) (names name)

-- all that is bound is bound above the line
abbrev pub AreAbove : ℕ → Names → Type 0
AreAbove line names = (name : List ℕ) → All (λ b. b.line < line) (names name)

-- the bindings of each name are those before and, behind them, some at this line
abbrev pub AddsAt : ℕ → Names → Names → Type 0
AddsAt line old new = (name : List ℕ) → (more : List Binding) × (new name ≡ old name ++ more) × All (λ b. b.line ≡ line) more

-- the bindings are those before
abbrev pub SameNames : Names → Names → Type 0
SameNames old new = (name : List ℕ) → new name ≡ old name

-- the names that a statement defines, in order of its lines
abbrev pub defined_names : Statement → List (List ℕ)
defined_names (st.Group recursions) = names_of recursions
defined_names (st.Let name e) = name ∷ []
defined_names _ = []

-- as many names of a system as there are here, from the place k on, as terms
abbrev pub terms_from : System → ℕ → List (List ℕ) → List Term
terms_from s k [] = []
terms_from s k (n ∷ ns) = Name s k ∷ terms_from s (suc k) ns

-- the terms that they stand for
abbrev pub defined_terms : Scope → Statement → List Term
defined_terms scope (st.Group recursions) = terms_from (block_system recursions) 0 (names_of recursions)
defined_terms scope (st.Let name e) = (expansion scope e).value ∷ []
defined_terms scope _ = []

-- each name that the statement defines has one binding more, at the line and to a handle of its element. All other
-- bindings are those before
pub record Binds (d : ℕ) (known : ℕ → Option (List ℕ)) (line : ℕ) (scope : Scope) (statement : Statement) (old new : Names) : Type 0 where
  pub handles : List Handle
  pub elements : StandForAll d known handles (defined_terms scope statement)
  pub added : (name : List ℕ) → new name ≡ old name ++ bindings_of line (defined_names statement) handles name

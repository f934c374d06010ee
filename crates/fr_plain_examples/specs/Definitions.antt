-- Definitions: what a block says, a name that stands twice in one, and a name that is bound twice.
use Rattle.std.specs.Prelude.{ℕ, ◌≡◌, ◌≢◌, false, [], ◌∷◌, Some, codes}
use Rattle.fr_model.specs.Systems.{System}
use Rattle.fr_model.specs.Terms.{One, Product}
use Rattle.fr_syntax.specs.declared.statement.Recursion.{Recursion}
use Rattle.fr_syntax.specs.declared.statement.Statement.TheVariants as st
use Rattle.fr_script.specs.declared.fault.LineFault.TheVariants as f
use Rattle.fr_plain.specs.Scopes.{Scope, bound}
use Rattle.fr_plain.specs.Blocks.{block_system}
use Rattle.fr_plain.specs.Steps.{Identity, Looked, Multiplied}
use Rattle.fr_plain.specs.Outcomes.{Outcome, IsStatement, refuse}
use Rattle.fr_model_examples.specs.Groups.{adding_machine}
use Rattle.fr_plain_examples.specs.Scripts.{one, x_times_x}

-- t = <1,t>(1,2) at a line
abbrev pub t_at : ℕ → Recursion
t_at line = record { line = line; name = codes "t"; perm = 2 ∷ 1 ∷ []; sections = [] ∷ (record { name = codes "t"; inverse = false } ∷ []) ∷ [] }

-- the block of the adding machine is its system; without the section it is another
pub record BlockIsSystem : Type 0 where
  pub system : ◌≡◌ {A = System} (block_system (t_at 2 ∷ [])) adding_machine
  pub not_empty_section : ◌≢◌ {A = System} (block_system (record { line = 2; name = codes "t"; perm = 2 ∷ 1 ∷ []; sections = [] ∷ [] ∷ [] } ∷ [])) adding_machine

-- a name that stands twice in a block is refused at its second line, and nothing is evaluated
pub record NameStandsTwice : Type 0 where
  pub refused : IsStatement 1 2 [] (st.Group (t_at 2 ∷ t_at 3 ∷ [])) (refuse [] [] 0 (record { line = 3; kind = f.NameTaken }))
  pub not_first_line : ¬ IsStatement 1 2 [] (st.Group (t_at 2 ∷ t_at 3 ∷ [])) (refuse [] [] 0 (record { line = 2; kind = f.NameTaken }))
  pub not_bound : (o : Outcome) → IsStatement 1 2 [] (st.Group (t_at 2 ∷ t_at 3 ∷ [])) o → o.refused ≢ false

-- what a line sees of x below `let x = 1`
abbrev pub x_is_one : Scope
x_is_one = record { name = codes "x"; term = One } ∷ []

-- and below `let x = x*x` after that
abbrev pub x_is_square : Scope
x_is_square = record { name = codes "x"; term = Product One One } ∷ x_is_one

-- the second binding of a name sees the first one, and the lines below see the second alone
pub record NameIsBoundTwice : Type 0 where
  pub first : IsStatement 1 2 [] (st.Let (codes "x") one) (record { steps = Identity ∷ []; charge = 1; text = []; refused = false; scope = x_is_one })
  pub second : IsStatement 2 2 x_is_one (st.Let (codes "x") x_times_x) (record { steps = Looked (Some One) ∷ Looked (Some One) ∷ Multiplied One One ∷ []; charge = 1; text = []; refused = false; scope = x_is_square })
  pub seen : bound x_is_square (codes "x") ≡ Some (Product One One)
  pub not_first : bound x_is_square (codes "x") ≢ Some One
  pub not_taken : (o : Outcome) → IsStatement 2 2 x_is_one (st.Let (codes "x") x_times_x) o → o.text ≢ codes "line 2: name taken\n"

-- What an item of a script gives by plain evaluation: its text, its charge, and the names that the lines below it see.
use Rattle.std.specs.Prelude.{ℕ, zero, suc, ◌≡◌, ◌+◌, Bool, true, false, List, [], ◌∷◌, ◌++◌, length, map, slice_index_or, Option, Some, None, Result, Ok, Err}
use Rattle.fr_model.specs.Systems.{System}
use Rattle.fr_model.specs.Terms.{Term}
use Rattle.fr_script.specs.declared.fault.LineFault.{LineFault}
use Rattle.fr_script.specs.declared.fault.Fault.{Fault}
use Rattle.fr_script.specs.declared.item.Item.{Item}
use Rattle.fr_script.specs.declared.item.Body.{Body}
use Rattle.fr_script.specs.declared.item.Body.TheVariants as b
use Rattle.fr_script.specs.FaultTexts.{fault_text}
use Rattle.fr_syntax.specs.declared.statement.Recursion.{Recursion}
use Rattle.fr_syntax.specs.declared.statement.Statement.{Statement}
use Rattle.fr_syntax.specs.declared.statement.Statement.TheVariants as st
use Rattle.fr_syntax.specs.declared.tree.Expr.{Expr}
use Rattle.fr_plain.specs.Scopes.{Scope, bind_names}
use Rattle.fr_plain.specs.Blocks.{block_system, names_of}
use Rattle.fr_plain.specs.BlockNames.{names_fault}
use Rattle.fr_plain.specs.Steps.{Step, Defined, AreEvaluated, AreStopped}
use Rattle.fr_plain.specs.Expansions.{Expansion, expansion, expansions, steps_of_all, values_of_all}
use Rattle.fr_plain.specs.Answers.{Ending, AnswersShow, AnswersStates, AnswersWreath, AnswersClass, AnswersEq, AnswersAct, AnswersRay, AnswersOrder, AnswersNucleus}

-- the steps that are evaluated with their charge, the text, whether it is that of a fault, and the bindings that the lines
-- below see
pub record Outcome : Type 0 where
  pub steps : List Step
  pub charge : ℕ
  pub text : List ℕ
  pub refused : Bool
  pub scope : Scope

-- a fault is printed, and nothing is bound
abbrev pub refuse : Scope → List Step → ℕ → Fault → Outcome
refuse scope steps n fault = record { steps = steps; charge = n; text = fault_text fault; refused = true; scope = scope }

-- a definition prints nothing
abbrev pub define : Scope → List Step → ℕ → Outcome
define scope steps n = record { steps = steps; charge = n; text = []; refused = false; scope = scope }

-- what is printed at the end of a statement that asks, which has made these steps before
abbrev pub reply : ℕ → Scope → List Step → ℕ → Result (List ℕ) LineFault → Outcome
reply line scope steps n (Ok text) = record { steps = steps; charge = n; text = text; refused = false; scope = scope }
reply line scope steps n (Err fault) = refuse scope steps n (record { line = line; kind = fault })

-- a statement that asks: the steps of its expressions are evaluated until one is refused, and where none is, it ends so
pub data IsReply (line d : ℕ) (scope : Scope) (steps : List Step) (Ends : Ending → Type 0) : Outcome → Type 0 where
  stopped : (done : List Step) (n : ℕ) (fault : LineFault) → AreStopped d steps done n fault
      → IsReply line d scope steps Ends (refuse scope done n (record { line = line; kind = fault }))
  ended : (n : ℕ) (e : Ending) → AreEvaluated d steps n → Ends e
      → IsReply line d scope steps Ends (reply line scope (steps ++ e.steps) (n + e.charge) e.answer)

-- a statement that asks of one element
abbrev pub IsReplyOn : ℕ → ℕ → Scope → Expr → (Term → Ending → Type 0) → Outcome → Type 0
IsReplyOn line d scope e Ends o = IsReply line d scope (expansion scope e).steps (Ends (expansion scope e).value) o

-- the first n names of a block, in order of its lines
abbrev pub name_steps : System → ℕ → List Step
name_steps s zero = []
name_steps s (suc n) = name_steps s n ++ Defined s n ∷ []

-- the line of a recursion
abbrev pub line_at : List Recursion → ℕ → ℕ
line_at recursions k = slice_index_or (map (λ r. r.line) recursions) k 0

-- a block: the elements of its names are evaluated until one is refused, at its own line, and where none is, all are bound
pub data DefinesBlock (d : ℕ) (scope : Scope) (recursions : List Recursion) : Outcome → Type 0 where
  stopped : (done : List Step) (n : ℕ) (fault : LineFault) → AreStopped d (name_steps (block_system recursions) (length recursions)) done n fault
      → DefinesBlock d scope recursions (refuse scope done n (record { line = line_at recursions (length done); kind = fault }))
  binds : (n : ℕ) → AreEvaluated d (name_steps (block_system recursions) (length recursions)) n
      → DefinesBlock d scope recursions (define (bind_names (block_system recursions) 0 (names_of recursions) scope) (name_steps (block_system recursions) (length recursions)) n)

-- a block: the fault of its names where there is one, else what its elements give
abbrev pub DefinesGroup : ℕ → Scope → List Recursion → Option Fault → Outcome → Type 0
DefinesGroup d scope recursions (Some fault) o = o ≡ refuse scope [] 0 fault
DefinesGroup d scope recursions None o = DefinesBlock d scope recursions o

-- a name for an element: its expression sees the earlier binding of the name
pub data DefinesName (line d : ℕ) (scope : Scope) (name : List ℕ) (e : Expansion) : Outcome → Type 0 where
  stopped : (done : List Step) (n : ℕ) (fault : LineFault) → AreStopped d e.steps done n fault
      → DefinesName line d scope name e (refuse scope done n (record { line = line; kind = fault }))
  binds : (n : ℕ) → AreEvaluated d e.steps n → DefinesName line d scope name e (define (record { name = name; term = e.value } ∷ scope) e.steps n)

-- what a statement at a line gives over d letters
abbrev pub IsStatement : ℕ → ℕ → Scope → Statement → Outcome → Type 0
IsStatement line d scope (st.Alphabet a) o = o ≡ define scope [] 0
IsStatement line d scope (st.Group recursions) o = DefinesGroup d scope recursions (names_fault recursions) o
IsStatement line d scope (st.Let name e) o = DefinesName line d scope name (expansion scope e) o
IsStatement line d scope (st.Show e) o = IsReplyOn line d scope e (AnswersShow d) o
IsStatement line d scope (st.States e) o = IsReplyOn line d scope e (AnswersStates d) o
IsStatement line d scope (st.Wreath e) o = IsReplyOn line d scope e (AnswersWreath d) o
IsStatement line d scope (st.ClassOf e) o = IsReplyOn line d scope e (AnswersClass d) o
IsStatement line d scope (st.Eq left right) o = IsReply line d scope ((expansion scope left).steps ++ (expansion scope right).steps) (AnswersEq d (expansion scope left).value (expansion scope right).value) o
IsStatement line d scope (st.Act e w) o = IsReplyOn line d scope e (λ t ending. AnswersAct t w ending) o
IsStatement line d scope (st.RayOf e ray) o = IsReplyOn line d scope e (λ t ending. AnswersRay d t (record { before = ray.before; period = ray.period }) ending) o
IsStatement line d scope (st.Order e most) o = IsReplyOn line d scope e (λ t ending. AnswersOrder d t most ending) o
IsStatement line d scope (st.NucleusOf es) o = IsReply line d scope (steps_of_all (expansions scope es)) (AnswersNucleus d (values_of_all (expansions scope es))) o

-- what an item gives; one that reading refused evaluates nothing
abbrev pub IsBody : ℕ → ℕ → Scope → Body → Outcome → Type 0
IsBody line d scope (b.Says statement) o = IsStatement line d scope statement o
IsBody line d scope (b.Faulty fault) o = o ≡ refuse scope [] 0 fault

-- what an item gives over d letters
abbrev pub IsOutcome : ℕ → Scope → Item → Outcome → Type 0
IsOutcome d scope item o = IsBody item.line d scope item.body o

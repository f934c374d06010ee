-- The first steps that statements and scripts evaluate, and scripts whose charge passes a number: such a script has first
-- steps that are charged more.
use Rattle.std.specs.Prelude.{ℕ, ◌≡◌, ◌+◌, ◌<◌, List, [], ◌∷◌, ◌++◌, length, Option, Some, None}
use Rattle.fr_model.specs.Terms.{Term}
use Rattle.fr_script.specs.declared.fault.Fault.{Fault}
use Rattle.fr_script.specs.declared.item.Item.{Item}
use Rattle.fr_script.specs.declared.item.Body.TheVariants as b
use Rattle.fr_script.specs.declared.script.Script.{Script}
use Rattle.fr_script.specs.Scripts.{IsScript}
use Rattle.fr_syntax.specs.declared.statement.Recursion.{Recursion}
use Rattle.fr_syntax.specs.declared.statement.Statement.{Statement}
use Rattle.fr_syntax.specs.declared.statement.Statement.TheVariants as st
use Rattle.fr_plain.specs.Scopes.{Scope}
use Rattle.fr_plain.specs.Blocks.{block_system}
use Rattle.fr_plain.specs.BlockNames.{names_fault}
use Rattle.fr_plain.specs.Steps.{Step, AreEvaluated}
use Rattle.fr_plain.specs.Expansions.{expansion, expansions, steps_of_all, values_of_all}
use Rattle.fr_plain.specs.Answers.{Ending, power_steps, HasNoOrder, AnswersNucleus}
use Rattle.fr_plain.specs.Outcomes.{Outcome, IsOutcome, name_steps}

-- the steps of a block, if no name of it is at fault
abbrev pub block_steps : List Recursion → Option Fault → List Step
block_steps recursions (Some fault) = []
block_steps recursions None = name_steps (block_system recursions) (length recursions)

-- the steps that a statement is sure to make, as far as none is refused: those of its names or expressions
abbrev pub statement_steps : Scope → Statement → List Step
statement_steps scope (st.Alphabet a) = []
statement_steps scope (st.Group recursions) = block_steps recursions (names_fault recursions)
statement_steps scope (st.Let name e) = (expansion scope e).steps
statement_steps scope (st.Show e) = (expansion scope e).steps
statement_steps scope (st.States e) = (expansion scope e).steps
statement_steps scope (st.Wreath e) = (expansion scope e).steps
statement_steps scope (st.ClassOf e) = (expansion scope e).steps
statement_steps scope (st.Eq left right) = (expansion scope left).steps ++ (expansion scope right).steps
statement_steps scope (st.Act e w) = (expansion scope e).steps
statement_steps scope (st.RayOf e ray) = (expansion scope e).steps
statement_steps scope (st.Order e most) = (expansion scope e).steps
statement_steps scope (st.NucleusOf es) = steps_of_all (expansions scope es)

-- the first powers of an element, as far as an order up to the bound needs them
pub record AreFirstPowers (d : ℕ) (t : Term) (bound : ℕ) (steps : List Step) : Type 0 where
  pub count : ℕ
  pub within : count < bound
  pub needed : HasNoOrder t count
  pub powers : steps ≡ power_steps t count

-- the first members of a nucleus
pub record AreFirstMembers (d : ℕ) (gens : List Term) (steps : List Step) : Type 0 where
  pub ending : Ending
  pub contracts : AnswersNucleus d gens ending
  pub rest : List Step
  pub begins : ending.steps ≡ steps ++ rest

-- the first steps that a statement makes beside those
abbrev pub AreFirstBeside : ℕ → Scope → Statement → List Step → Type 0
AreFirstBeside d scope (st.Order e most) steps = AreFirstPowers d (expansion scope e).value most steps
AreFirstBeside d scope (st.NucleusOf es) steps = AreFirstMembers d (values_of_all (expansions scope es)) steps
AreFirstBeside d scope _ steps = steps ≡ []

-- first steps that a statement evaluates, and their charge
pub data AreFirstSteps (d : ℕ) (scope : Scope) (s : Statement) : List Step → ℕ → Type 0 where
  within : (done rest : List Step) (n : ℕ) → statement_steps scope s ≡ done ++ rest → AreEvaluated d done n → AreFirstSteps d scope s done n
  beside : (more : List Step) (n : ℕ) → AreFirstBeside d scope s more → AreEvaluated d (statement_steps scope s ++ more) n
      → AreFirstSteps d scope s (statement_steps scope s ++ more) n

-- a statement that asks, and binds nothing
abbrev pub IsAsk : Statement → Type 0
IsAsk (st.Alphabet a) = ⊥
IsAsk (st.Group recursions) = ⊥
IsAsk (st.Let name e) = ⊥
IsAsk _ = Unit {0}

-- so much is charged for some evaluated steps: of each ask some first ones, of each definition all, up to one of which
-- only some first ones count and below which nothing does
pub data ReachesCharge (d : ℕ) : Scope → List Item → ℕ → Type 0 where
  stops : (scope : Scope) (items : List Item) → ReachesCharge d scope items 0
  begins : (scope : Scope) (line : ℕ) (s : Statement) (items : List Item) (steps : List Step) (n : ℕ) → AreFirstSteps d scope s steps n
      → ReachesCharge d scope (record { line = line; body = b.Says s } ∷ items) n
  asks : (scope : Scope) (line : ℕ) (s : Statement) (items : List Item) (steps : List Step) (m n : ℕ) → IsAsk s → AreFirstSteps d scope s steps m → ReachesCharge d scope items n
      → ReachesCharge d scope (record { line = line; body = b.Says s } ∷ items) (m + n)
  goes_on : (scope : Scope) (item : Item) (items : List Item) (o : Outcome) (n : ℕ) → IsOutcome d scope item o → ReachesCharge d o.scope items n
      → ReachesCharge d scope (item ∷ items) (o.charge + n)

-- the charge of the script that the bytes write is more than this
pub record PassesCharge (bytes : List ℕ) (limit : ℕ) : Type 0 where
  pub script : Script
  pub reads : IsScript bytes script
  pub charge : ℕ
  pub reaches : ReachesCharge script.alphabet [] script.items charge
  pub passes : limit < charge

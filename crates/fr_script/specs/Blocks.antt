-- A block as a whole: its `group` line, the lines up to the first end, and its one fault. The language is this project's own.
use Rattle.std.specs.Prelude.{ℕ, ◌≡◌, ◌+◌, Bool, nat_lt, if◌then◌else◌, List, [], ◌∷◌, ◌++◌, length, Option, Some, None, MatchBool}
use Rattle.fr_syntax.specs.declared.statement.Recursion.{Recursion}
use Rattle.fr_syntax.specs.declared.statement.Statement.TheVariants as st
use Rattle.fr_script.specs.declared.fault.Fault.{Fault}
use Rattle.fr_script.specs.declared.fault.LineFault.TheVariants as f
use Rattle.fr_script.specs.declared.outcome.LineOutcome.{LineOutcome}
use Rattle.fr_script.specs.declared.outcome.LineOutcome.TheVariants as o
use Rattle.fr_script.specs.declared.inner.InnerOutcome.{InnerOutcome}
use Rattle.fr_script.specs.declared.inner.InnerOutcome.TheVariants as i
use Rattle.fr_script.specs.declared.item.Body.{Body}
use Rattle.fr_script.specs.declared.item.Body.TheVariants as b
use Rattle.fr_script.specs.declared.item.Item.{Item}
use Rattle.fr_script.specs.Reading.{ReadsLine}
use Rattle.fr_script.specs.Inner.{ReadsInner}
use Rattle.fr_script.specs.Items.{line_kind, is_blank, is_end, without_end}

-- the lines before the first that ends a block
abbrev pub before_end : List (List ℕ) → List (List ℕ)
before_end [] = []
before_end (line ∷ lines) = if is_end (line_kind line) then [] else line ∷ before_end lines

-- that line, and those after it
abbrev pub from_end : List (List ℕ) → List (List ℕ)
from_end [] = []
from_end (line ∷ lines) = if is_end (line_kind line) then line ∷ lines else from_end lines

-- what a line inside a block says
abbrev pub said : InnerOutcome → List Recursion
said (i.Says recursion) = recursion ∷ []
said (i.Faulty kind) = []

-- the fault of the line n inside a block
abbrev pub inner_fault : ℕ → InnerOutcome → Option Fault
inner_fault n (i.Says recursion) = None
inner_fault n (i.Faulty kind) = Some (record { line = n; kind = kind })

-- the fault of the `group` line n
abbrev pub group_fault : ℕ → LineOutcome → Option Fault
group_fault n (o.Faulty kind) = Some (record { line = n; kind = kind })
group_fault n _ = None

-- the fault of the line n that ends a block
abbrev pub end_fault : ℕ → Bool → Option Fault
end_fault n is_long = if is_long then Some (record { line = n; kind = f.LineTooLong }) else None

-- the first of two, where the first stands above the second
abbrev pub first_of : Option Fault → Option Fault → Option Fault
first_of None second = second
first_of (Some first) second = Some first

-- what lines inside a block say, of which the first has the number n, and their first fault
abbrev pub ReadsBlock : ℕ → ℕ → List (List ℕ) → List Recursion → Option Fault → Type 0
ReadsBlock d n [] recursions fault = (recursions ≡ []) × (fault ≡ None)
ReadsBlock d n (line ∷ lines) recursions fault =
    MatchBool (is_blank (line_kind line) line) (ReadsBlock d (n + 1) lines recursions fault)
    ((outcome : InnerOutcome) × (later : List Recursion) × (next : Option Fault) × ReadsInner d n line outcome × ReadsBlock d (n + 1) lines later next
    × (recursions ≡ said outcome ++ later) × (fault ≡ first_of (inner_fault n outcome) next))

-- a block with a fault is refused by it
abbrev pub block_body : Option Fault → List Recursion → Body
block_body (Some fault) recursions = b.Faulty fault
block_body None recursions = b.Says (st.Group recursions)

-- The item of a block whose `group` line has the number n, by the lines inside it and those from its end on.
-- Where it has no end its lines are not looked at.
abbrev pub EndsBlock : ℕ → Bool → ℕ → List ℕ → List (List ℕ) → List (List ℕ) → Item → Type 0
EndsBlock d is_first n group inner [] item = item ≡ without_end n
EndsBlock d is_first n group inner (end_line ∷ after) item =
    (outcome : LineOutcome) × (recursions : List Recursion) × (fault : Option Fault)
    × ReadsLine d is_first group outcome × ReadsBlock d (n + 1) inner recursions fault
    × (item ≡ record {
      line = n;
      body = block_body (first_of (group_fault n outcome) (first_of fault (end_fault (n + 1 + length inner) (nat_lt 4096 (length end_line))))) recursions;
    })

-- the item of the block that begins with the `group` line n before these lines
abbrev pub IsBlock : ℕ → Bool → ℕ → List ℕ → List (List ℕ) → Item → Type 0
IsBlock d is_first n group lines item = EndsBlock d is_first n group (before_end lines) (from_end lines) item

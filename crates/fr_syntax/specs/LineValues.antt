-- What a line says, and what is refused in it.
use Rattle.std.specs.Prelude.{ℕ, ◌≡◌, List, [], ◌∷◌, ◌++◌}
use Rattle.fr_syntax.specs.declared.notes.Notes.{Notes}
use Rattle.fr_syntax.specs.declared.tree.Expr.{Expr}
use Rattle.fr_syntax.specs.declared.statement.Ray.{Ray}
use Rattle.fr_syntax.specs.declared.statement.Statement.TheVariants as st
use Rattle.fr_syntax.specs.declared.line.Line.{Line}
use Rattle.fr_syntax.specs.declared.line.Line.TheVariants as l
use Rattle.fr_syntax.specs.declared.line.ReadLine.{ReadLine}
use Rattle.fr_syntax.specs.declared.line.LineReading.{LineReading}
use Rattle.fr_syntax.specs.declared.line.LineReading.TheVariants as r
use Rattle.fr_syntax.specs.Tokens.{Lexeme}
use Rattle.fr_syntax.specs.Grammar.{RayTree, Periodic, Eventually, ExprsTree, OneExpr, MoreExprs, LineTree, AlphabetLine, GroupLine, LetLine, ShowLine, StatesLine, WreathLine, ClassLine, EqLine, ActLine, RayLine, OrderLine, NucleusLine, line_tokens}
use Rattle.fr_syntax.specs.Values.{no_notes, capped_value, letters_of, note_power, note_digits, note_word, word_value, expr_value, note_expr}
use Rattle.fr_syntax.specs.Faults.{IsFaultAt}

-- the words of a ray
abbrev pub ray_value : ℕ → RayTree → Ray
ray_value d (Periodic period) = record { before = []; period = letters_of d period }
ray_value d (Eventually before period) = record { before = letters_of d before; period = letters_of d period }

-- the expressions of a list
abbrev pub exprs_value : ℕ → ExprsTree → List Expr
exprs_value d (OneExpr expr) = expr_value d expr ∷ []
exprs_value d (MoreExprs exprs expr) = exprs_value d exprs ++ expr_value d expr ∷ []

-- what a line says
abbrev pub line_value : ℕ → LineTree → Line
line_value d (AlphabetLine text) = l.Alphabet (capped_value text)
line_value d GroupLine = l.Group
line_value d (LetLine name expr) = l.Says (st.Let name (expr_value d expr))
line_value d (ShowLine expr) = l.Says (st.Show (expr_value d expr))
line_value d (StatesLine expr) = l.Says (st.States (expr_value d expr))
line_value d (WreathLine expr) = l.Says (st.Wreath (expr_value d expr))
line_value d (ClassLine expr) = l.Says (st.ClassOf (expr_value d expr))
line_value d (EqLine left right) = l.Says (st.Eq (expr_value d left) (expr_value d right))
line_value d (ActLine expr word) = l.Says (st.Act (expr_value d expr) (word_value d word))
line_value d (RayLine expr ray) = l.Says (st.RayOf (expr_value d expr) (ray_value d ray))
line_value d (OrderLine expr text) = l.Says (st.Order (expr_value d expr) (capped_value text))
line_value d (NucleusLine exprs) = l.Says (st.NucleusOf (exprs_value d exprs))

-- the digits of a ray that are no letters
abbrev pub note_ray : ℕ → RayTree → Notes → Notes
note_ray d (Periodic period) notes = note_digits d period notes
note_ray d (Eventually before period) notes = note_digits d period (note_digits d before notes)

-- what is refused in a list of expressions
abbrev pub note_exprs : ℕ → ExprsTree → Notes → Notes
note_exprs d (OneExpr expr) notes = note_expr d expr notes
note_exprs d (MoreExprs exprs expr) notes = note_expr d expr (note_exprs d exprs notes)

-- what is refused in a line
abbrev pub line_notes : ℕ → LineTree → Notes
line_notes d (AlphabetLine text) = no_notes
line_notes d GroupLine = no_notes
line_notes d (LetLine name expr) = note_expr d expr no_notes
line_notes d (ShowLine expr) = note_expr d expr no_notes
line_notes d (StatesLine expr) = note_expr d expr no_notes
line_notes d (WreathLine expr) = note_expr d expr no_notes
line_notes d (ClassLine expr) = note_expr d expr no_notes
line_notes d (EqLine left right) = note_expr d right (note_expr d left no_notes)
line_notes d (ActLine expr word) = note_word d word (note_expr d expr no_notes)
line_notes d (RayLine expr ray) = note_ray d ray (note_expr d expr no_notes)
line_notes d (OrderLine expr text) = note_power text (note_expr d expr no_notes)
line_notes d (NucleusLine exprs) = note_exprs d exprs no_notes

-- both
abbrev pub line_read : ℕ → LineTree → ReadLine
line_read d line = record { line = line_value d line; notes = line_notes d line }

-- The tokens of a line are read as what it says, and others as their first fault.
abbrev pub Reads : ℕ → List Lexeme → LineReading → Type 0
Reads d tokens (r.Whole read) = (line : LineTree) × (tokens ≡ line_tokens line) × (read ≡ line_read d line)
Reads d tokens (r.Syntax k) = IsFaultAt line_tokens tokens k

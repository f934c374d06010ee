-- How many atoms and operations an expression has, those inside brackets counted. This is the project's own notion.
use Rattle.std.specs.Prelude.{ℕ, ◌+◌, List, [], ◌∷◌, length, sum}
use Rattle.fr_syntax.specs.declared.tree.Expr.{Expr, Expr-F, fold-Expr}
use Rattle.fr_syntax.specs.declared.tree.Factor.{Factor, Factor-F, fold-Factor}
use Rattle.fr_syntax.specs.declared.tree.Atom.{Atom, fold-Atom}
use Rattle.fr_syntax.specs.declared.tree.Op.{Op, fold-Op}
use Rattle.fr_syntax.specs.declared.tree.Atom.TheOpen.{Atom-F, Op-F}
use Rattle.fr_syntax.specs.declared.tree.Atom.TheOpen as layer
use Rattle.fr_syntax.specs.declared.statement.Statement.{Statement}
use Rattle.fr_syntax.specs.declared.statement.Statement.TheVariants as st
use Rattle.fr_syntax.specs.declared.line.Line.{Line}
use Rattle.fr_syntax.specs.declared.line.Line.TheVariants as l

-- an atom and what is inside it
abbrev pub atom_layer_size : Atom-F ℕ ℕ ℕ ℕ → ℕ
atom_layer_size layer.One = 1
atom_layer_size (layer.Named name) = 1
atom_layer_size (layer.Paren e) = 1 + e
atom_layer_size (layer.Comm left right) = 1 + (left + right)

-- an operation and the atom in it
abbrev pub op_layer_size : Op-F ℕ ℕ ℕ ℕ → ℕ
op_layer_size (layer.Power negative k) = 1
op_layer_size (layer.Conj a) = 1 + a
op_layer_size (layer.At w) = 1

-- the factors of an expression
abbrev pub expr_layer_size : Expr-F ℕ ℕ ℕ ℕ → ℕ
expr_layer_size e = sum e.factors

-- an atom and its operations
abbrev pub factor_layer_size : Factor-F ℕ ℕ ℕ ℕ → ℕ
factor_layer_size f = f.atom + sum f.ops

-- the atoms and operations of an expression
unfoldable pub expr_size : Expr → ℕ
expr_size e = fold-Expr ℕ ℕ ℕ ℕ atom_layer_size op_layer_size expr_layer_size factor_layer_size e

-- those of a factor
unfoldable pub factor_size : Factor → ℕ
factor_size f = fold-Factor ℕ ℕ ℕ ℕ atom_layer_size op_layer_size expr_layer_size factor_layer_size f

-- those of an atom
unfoldable pub atom_size : Atom → ℕ
atom_size a = fold-Atom ℕ ℕ ℕ ℕ atom_layer_size op_layer_size expr_layer_size factor_layer_size a

-- those of an operation
unfoldable pub op_size : Op → ℕ
op_size op = fold-Op ℕ ℕ ℕ ℕ atom_layer_size op_layer_size expr_layer_size factor_layer_size op

-- those of a list of expressions
abbrev pub exprs_size : List Expr → ℕ
exprs_size [] = 0
exprs_size (e ∷ es) = expr_size e + exprs_size es

-- the atoms, operations and recursions of a statement
abbrev pub statement_size : Statement → ℕ
statement_size (st.Alphabet a) = 0
statement_size (st.Group recursions) = length recursions
statement_size (st.Let name e) = expr_size e
statement_size (st.Show e) = expr_size e
statement_size (st.States e) = expr_size e
statement_size (st.Wreath e) = expr_size e
statement_size (st.ClassOf e) = expr_size e
statement_size (st.Eq left right) = expr_size left + expr_size right
statement_size (st.Act e w) = expr_size e
statement_size (st.RayOf e ray) = expr_size e
statement_size (st.Order e k) = expr_size e
statement_size (st.NucleusOf es) = exprs_size es

-- the same of what a line outside a block says
abbrev pub line_size : Line → ℕ
line_size (l.Alphabet letters) = 0
line_size l.Group = 0
line_size (l.Says statement) = statement_size statement

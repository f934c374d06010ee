-- What a line says over an alphabet of d letters: its words and permutations are over it. This is the project's own notion.
use Rattle.std.specs.Prelude.{ℕ, ◌≡◌, ◌+◌, ◌<◌, ◌≤◌, Bool, List, [], ◌∷◌, length}
use Rattle.fr_model.specs.Words.{IsWord}
use Rattle.fr_model.specs.Permutations.{IsPermutation}
use Rattle.fr_syntax.specs.declared.tree.Expr.{Expr, out-Expr}
use Rattle.fr_syntax.specs.declared.tree.Factor.{Factor, out-Factor}
use Rattle.fr_syntax.specs.declared.tree.Atom.{Atom, out-Atom}
use Rattle.fr_syntax.specs.declared.tree.Atom.TheOpen.{Atom-F}
use Rattle.fr_syntax.specs.declared.tree.Atom.TheOpen as layer
use Rattle.fr_syntax.specs.declared.tree.Op.{Op}
use Rattle.fr_syntax.specs.declared.tree.Op.TheVariants as o
use Rattle.fr_syntax.specs.declared.statement.Recursion.{Recursion}
use Rattle.fr_syntax.specs.declared.statement.Ray.{Ray}
use Rattle.fr_syntax.specs.declared.statement.Statement.{Statement}
use Rattle.fr_syntax.specs.declared.statement.Statement.TheVariants as st
use Rattle.fr_syntax.specs.declared.line.Line.{Line}
use Rattle.fr_syntax.specs.declared.line.Line.TheVariants as l

-- the outermost level of an atom
abbrev pub AtomLayer : Type 0
AtomLayer = Atom-F Atom Op Expr Factor

mutual
  -- no list of factors in the expression is empty, and its words are words of the alphabet
  pub data FitsExpr (d : ℕ) : Expr → Type 0 where
    expr_fits : (e : Expr) → 0 < length (out-Expr e).factors → FitsFactors d (out-Expr e).factors → FitsExpr d e

  -- each factor fits
  pub data FitsFactors (d : ℕ) : List Factor → Type 0 where
    no_factors : FitsFactors d []
    more_factors : (f : Factor) (fs : List Factor) → FitsAtom d (out-Factor f).atom → FitsOps d (out-Factor f).ops → FitsFactors d fs → FitsFactors d (f ∷ fs)

  -- an atom fits where its outermost level does
  pub data FitsAtom (d : ℕ) : Atom → Type 0 where
    atom_fits : (a : Atom) → FitsAtomLayer d (out-Atom a) → FitsAtom d a

  -- the expressions in brackets fit
  pub data FitsAtomLayer (d : ℕ) : AtomLayer → Type 0 where
    one_fits : FitsAtomLayer d layer.One
    name_fits : (name : List ℕ) → FitsAtomLayer d (layer.Named name)
    paren_fits : (e : Expr) → FitsExpr d e → FitsAtomLayer d (layer.Paren e)
    comm_fits : (left right : Expr) → FitsExpr d left → FitsExpr d right → FitsAtomLayer d (layer.Comm left right)

  -- each operation fits
  pub data FitsOps (d : ℕ) : List Op → Type 0 where
    no_ops : FitsOps d []
    more_ops : (op : Op) (ops : List Op) → FitsOp d op → FitsOps d ops → FitsOps d (op ∷ ops)

  -- the atom of a conjugation fits, and the word of a section is over the alphabet
  pub data FitsOp (d : ℕ) : Op → Type 0 where
    power_fits : (negative : Bool) (k : ℕ) → FitsOp d (o.Power negative k)
    conj_fits : (a : Atom) → FitsAtom d a → FitsOp d (o.Conj a)
    at_fits : (w : List ℕ) → IsWord d w → FitsOp d (o.At w)

-- each fits
abbrev pub FitsExprs : ℕ → List Expr → Type 0
FitsExprs d [] = Unit {0}
FitsExprs d (e ∷ es) = FitsExpr d e × FitsExprs d es

-- a permutation of the alphabet, and a section for each letter
pub record FitsRecursion (d : ℕ) (r : Recursion) : Type 0 where
  pub permutes : IsPermutation d r.perm
  pub arity : length r.sections ≡ d

-- each fits, and their lines rise from above `low` to `high`
abbrev pub FitsRecursions : ℕ → ℕ → ℕ → List Recursion → Type 0
FitsRecursions d low high [] = low ≤ high
FitsRecursions d low high (r ∷ rs) = (low < r.line) × FitsRecursion d r × FitsRecursions d r.line high rs

-- letters of the alphabet alone, at most 4,096, and some of them in the period
pub record FitsRay (d : ℕ) (ray : Ray) : Type 0 where
  pub before : IsWord d ray.before
  pub period : IsWord d ray.period
  pub some : 0 < length ray.period
  pub most : length ray.before + length ray.period ≤ 4096

-- what an item says whose lines are those from `low` to `high`
abbrev pub FitsStatement : ℕ → ℕ → ℕ → Statement → Type 0
FitsStatement d low high (st.Alphabet a) = Unit {0}
FitsStatement d low high (st.Group recursions) = FitsRecursions d low high recursions
FitsStatement d low high (st.Let name e) = FitsExpr d e
FitsStatement d low high (st.Show e) = FitsExpr d e
FitsStatement d low high (st.States e) = FitsExpr d e
FitsStatement d low high (st.Wreath e) = FitsExpr d e
FitsStatement d low high (st.ClassOf e) = FitsExpr d e
FitsStatement d low high (st.Eq left right) = FitsExpr d left × FitsExpr d right
FitsStatement d low high (st.Act e w) = FitsExpr d e × IsWord d w
FitsStatement d low high (st.RayOf e ray) = FitsExpr d e × FitsRay d ray
FitsStatement d low high (st.Order e k) = FitsExpr d e
FitsStatement d low high (st.NucleusOf es) = (0 < length es) × FitsExprs d es

-- what a line outside a block says fits, whichever lines its item has
abbrev pub FitsLine : ℕ → Line → Type 0
FitsLine d (l.Alphabet letters) = Unit {0}
FitsLine d l.Group = Unit {0}
FitsLine d (l.Says statement) = (low high : ℕ) → FitsStatement d low high statement

-- An expression has no more atoms and operations than tokens.
use Rattle.std.proofs.Common.{◌≡◌, ℕ, ◌+◌, ◌≤◌, Bool, true, false, List, [], ◌∷◌, ◌++◌, map, length, sum, ap, sym, ◌∙◌, arith}
use Rattle.std.proofs.lemmas.List.{map-append}
use Rattle.std.proofs.lemmas.List.Sums.{sum_by_push}
use Rattle.fr_syntax.specs.declared.tree.Expr.{Expr, fold-roll-Expr}
use Rattle.fr_syntax.specs.declared.tree.Factor.{Factor, out-Factor, roll-Factor, fold-roll-Factor, fold_out-Factor}
use Rattle.fr_syntax.specs.declared.tree.Atom.{Atom, fold-roll-Atom}
use Rattle.fr_syntax.specs.declared.tree.Atom.TheVariants as a
use Rattle.fr_syntax.specs.declared.tree.Atom.TheOpen as layer
use Rattle.fr_syntax.specs.declared.tree.Op.{Op, fold-roll-Op}
use Rattle.fr_syntax.specs.declared.tree.Op.TheVariants as o
use Rattle.fr_syntax.specs.declared.token.Mark.TheVariants as m
use Rattle.fr_syntax.specs.Tokens.{Lexeme, Sign, Number}
use Rattle.fr_syntax.specs.Grammar.{WordTree, Empty, Digits, ExprTree, Only, Times, FactorTree, Plain, With, OpTree, Power, Negative, Conjugate, Section, AtomTree, One, Simple, Atom2Tree, Named, Paren, Comm, RayTree, Periodic, Eventually, ExprsTree, OneExpr, MoreExprs, LineTree, AlphabetLine, GroupLine, LetLine, ShowLine, StatesLine, WreathLine, ClassLine, EqLine, ActLine, RayLine, OrderLine, NucleusLine, line_tokens, spell_exprs, spell_ray, spell_word, spell_expr, spell_factor, spell_op, spell_atom, spell_atom2}
use Rattle.fr_syntax.specs.Values.{factors_of, factor_value, op_value, atom_value, atom2_value, word_value, product, with_op, capped_value, expr_value}
use Rattle.fr_syntax.specs.LineValues.{exprs_value, line_value}
use Rattle.fr_syntax.specs.Sizes.{atom_layer_size, op_layer_size, expr_layer_size, factor_layer_size, expr_size, factor_size, atom_size, op_size, exprs_size, line_size}

expr_size-product : (fs : List Factor) → expr_size (product fs) ≡ sum (map factor_size fs)
unfolding expr_size factor_size
expr_size-product fs = fold-roll-Expr ℕ ℕ ℕ ℕ atom_layer_size op_layer_size expr_layer_size factor_layer_size (record { factors = fs })

factor_size-roll : (atom : Atom) (ops : List Op) → factor_size (roll-Factor (record { atom = atom; ops = ops })) ≡ atom_size atom + sum (map op_size ops)
unfolding factor_size atom_size op_size
factor_size-roll atom ops = fold-roll-Factor ℕ ℕ ℕ ℕ atom_layer_size op_layer_size expr_layer_size factor_layer_size (record { atom = atom; ops = ops })

factor_size-out : (f : Factor) → factor_size f ≡ atom_size (out-Factor f).atom + sum (map op_size (out-Factor f).ops)
unfolding factor_size atom_size op_size
factor_size-out f = fold_out-Factor ℕ ℕ ℕ ℕ atom_layer_size op_layer_size expr_layer_size factor_layer_size f

atom_size-One : atom_size a.One ≡ 1
unfolding atom_size
atom_size-One = ap atom_size (sym a.rolls-One) ∙ fold-roll-Atom ℕ ℕ ℕ ℕ atom_layer_size op_layer_size expr_layer_size factor_layer_size layer.One

atom_size-Named : (name : List ℕ) → atom_size (a.Named name) ≡ 1
unfolding atom_size
atom_size-Named name = ap atom_size (sym (a.rolls-Named name)) ∙ fold-roll-Atom ℕ ℕ ℕ ℕ atom_layer_size op_layer_size expr_layer_size factor_layer_size (layer.Named name)

atom_size-Paren : (e : Expr) → atom_size (a.Paren e) ≡ 1 + expr_size e
unfolding atom_size expr_size
atom_size-Paren e = ap atom_size (sym (a.rolls-Paren e)) ∙ fold-roll-Atom ℕ ℕ ℕ ℕ atom_layer_size op_layer_size expr_layer_size factor_layer_size (layer.Paren e)

atom_size-Comm : (left right : Expr) → atom_size (a.Comm left right) ≡ 1 + (expr_size left + expr_size right)
unfolding atom_size expr_size
atom_size-Comm left right =
    ap atom_size (sym (a.rolls-Comm left right)) ∙ fold-roll-Atom ℕ ℕ ℕ ℕ atom_layer_size op_layer_size expr_layer_size factor_layer_size (layer.Comm left right)

op_size-Power : (negative : Bool) (k : ℕ) → op_size (o.Power negative k) ≡ 1
unfolding op_size
op_size-Power negative k = ap op_size (sym (o.rolls-Power negative k)) ∙ fold-roll-Op ℕ ℕ ℕ ℕ atom_layer_size op_layer_size expr_layer_size factor_layer_size (layer.Power negative k)

op_size-Conj : (atom : Atom) → op_size (o.Conj atom) ≡ 1 + atom_size atom
unfolding op_size atom_size
op_size-Conj atom = ap op_size (sym (o.rolls-Conj atom)) ∙ fold-roll-Op ℕ ℕ ℕ ℕ atom_layer_size op_layer_size expr_layer_size factor_layer_size (layer.Conj atom)

op_size-At : (w : List ℕ) → op_size (o.At w) ≡ 1
unfolding op_size
op_size-At w = ap op_size (sym (o.rolls-At w)) ∙ fold-roll-Op ℕ ℕ ℕ ℕ atom_layer_size op_layer_size expr_layer_size factor_layer_size (layer.At w)

sum-last : (ns : List ℕ) (n : ℕ) → sum (ns ++ n ∷ []) ≡ sum ns + n
sum-last ns n = sum_by_push (λ x. x) ns n

with_op-size : (f : Factor) (op : Op) → factor_size (with_op f op) ≡ factor_size f + op_size op
with_op-size f op =
    let whole = factor_size-roll (out-Factor f).atom ((out-Factor f).ops ++ op ∷ []) in
    let ops : sum (map op_size ((out-Factor f).ops ++ op ∷ [])) ≡ sum (map op_size (out-Factor f).ops) + op_size op =
    ap sum (map-append op_size (out-Factor f).ops (op ∷ [])) ∙ sum-last (map op_size (out-Factor f).ops) (op_size op) in
    whole ∙ omega (arith, ops, factor_size-out f)

mutual
  factors-size : (d : ℕ) (e : ExprTree) (rest : List Lexeme) → sum (map factor_size (factors_of d e)) + length rest ≤ length (spell_expr e rest)
  factors-size d (Only factor) rest = omega (arith, factor-size d factor rest)
  factors-size d (Times e factor) rest =
      let more : sum (map factor_size (factors_of d e ++ factor_value d factor ∷ [])) ≡ sum (map factor_size (factors_of d e)) + factor_size (factor_value d factor) =
      ap sum (map-append factor_size (factors_of d e) (factor_value d factor ∷ []))
      ∙ sum-last (map factor_size (factors_of d e)) (factor_size (factor_value d factor)) in
      omega (arith, more, factor-size d factor rest, factors-size d e (Sign m.Star ∷ spell_factor factor rest))

  factor-size : (d : ℕ) (f : FactorTree) (rest : List Lexeme) → factor_size (factor_value d f) + length rest ≤ length (spell_factor f rest)
  factor-size d (Plain atom) rest = omega (arith, factor_size-roll (atom_value d atom) [], atom-size d atom rest)
  factor-size d (With factor op) rest =
      omega (arith, with_op-size (factor_value d factor) (op_value d op), op-size d op rest, factor-size d factor (spell_op op rest))

  op-size : (d : ℕ) (op : OpTree) (rest : List Lexeme) → op_size (op_value d op) + length rest ≤ length (spell_op op rest)
  op-size d (Power text) rest = omega (arith, op_size-Power false (capped_value text))
  op-size d (Negative text) rest = omega (arith, op_size-Power true (capped_value text))
  op-size d (Conjugate atom) rest = omega (arith, op_size-Conj (atom2_value d atom), atom2-size d atom rest)
  op-size d (Section Empty) rest = omega (arith, op_size-At (word_value d Empty))
  op-size d (Section (Digits text)) rest = omega (arith, op_size-At (word_value d (Digits text)))

  atom-size : (d : ℕ) (atom : AtomTree) (rest : List Lexeme) → atom_size (atom_value d atom) + length rest ≤ length (spell_atom atom rest)
  atom-size d One rest = omega (arith, atom_size-One)
  atom-size d (Simple atom) rest = atom2-size d atom rest

  atom2-size : (d : ℕ) (atom : Atom2Tree) (rest : List Lexeme) → atom_size (atom2_value d atom) + length rest ≤ length (spell_atom2 atom rest)
  atom2-size d (Named name) rest = omega (arith, atom_size-Named name)
  atom2-size d (Paren e) rest =
      omega (arith, atom_size-Paren (product (factors_of d e)), expr_size-product (factors_of d e), factors-size d e (Sign m.RightParen ∷ rest))
  atom2-size d (Comm left right) rest =
      omega (
        arith,
        atom_size-Comm (product (factors_of d left)) (product (factors_of d right)),
        expr_size-product (factors_of d left),
        expr_size-product (factors_of d right),
        factors-size d right (Sign m.RightBracket ∷ rest),
        factors-size d left (Sign m.Comma ∷ spell_expr right (Sign m.RightBracket ∷ rest)),
      )

pub expr-size : (d : ℕ) (e : ExprTree) (rest : List Lexeme) → expr_size (expr_value d e) + length rest ≤ length (spell_expr e rest)
expr-size d e rest = omega (arith, expr_size-product (factors_of d e), factors-size d e rest)

exprs_size-append : (es : List Expr) (e : Expr) → exprs_size (es ++ e ∷ []) ≡ exprs_size es + expr_size e
exprs_size-append [] e = omega arith
exprs_size-append (f ∷ es) e = omega (arith, exprs_size-append es e)

exprs-size : (d : ℕ) (es : ExprsTree) (rest : List Lexeme) → exprs_size (exprs_value d es) + length rest ≤ length (spell_exprs es rest)
exprs-size d (OneExpr e) rest = omega (arith, expr-size d e rest)
exprs-size d (MoreExprs es e) rest =
    omega (arith, exprs_size-append (exprs_value d es) (expr_value d e), expr-size d e rest, exprs-size d es (Sign m.Comma ∷ spell_expr e rest))

word-size : (w : WordTree) (rest : List Lexeme) → length rest ≤ length (spell_word w rest)
word-size Empty rest = omega arith
word-size (Digits text) rest = omega arith

ray-size : (ray : RayTree) (rest : List Lexeme) → length rest ≤ length (spell_ray ray rest)
ray-size (Periodic period) rest = omega arith
ray-size (Eventually before period) rest = omega arith

-- what a line of the grammar says has no more atoms and operations than the line has tokens
pub line-size : (d : ℕ) (line : LineTree) → line_size (line_value d line) ≤ length (line_tokens line)
line-size d (AlphabetLine text) = omega arith
line-size d GroupLine = omega arith
line-size d (LetLine name e) = omega (arith, expr-size d e [])
line-size d (ShowLine e) = omega (arith, expr-size d e [])
line-size d (StatesLine e) = omega (arith, expr-size d e [])
line-size d (WreathLine e) = omega (arith, expr-size d e [])
line-size d (ClassLine e) = omega (arith, expr-size d e [])
line-size d (EqLine left right) = omega (arith, expr-size d right [], expr-size d left (spell_expr right []))
line-size d (ActLine e w) = omega (arith, word-size w [], expr-size d e (spell_word w []))
line-size d (RayLine e ray) = omega (arith, ray-size ray [], expr-size d e (spell_ray ray []))
line-size d (OrderLine e text) = omega (arith, expr-size d e (Number text ∷ []))
line-size d (NucleusLine es) = omega (arith, exprs-size d es [])

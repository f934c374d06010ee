-- The names and expressions that the examples are about.
use Rattle.std.specs.Prelude.{true, false, [], ◌∷◌, codes}
use Rattle.fr_model.specs.Terms.{Term, Name}
use Rattle.fr_syntax.specs.declared.tree.Expr.{Expr}
use Rattle.fr_syntax.specs.declared.tree.Factor.{Factor, roll-Factor}
use Rattle.fr_syntax.specs.declared.tree.Atom.{Atom}
use Rattle.fr_syntax.specs.declared.tree.Atom.TheVariants as a
use Rattle.fr_syntax.specs.declared.tree.Op.{Op}
use Rattle.fr_syntax.specs.declared.tree.Op.TheVariants as o
use Rattle.fr_syntax.specs.Values.{plain, product}
use Rattle.fr_plain.specs.Scopes.{Scope, bind_names}
use Rattle.fr_model_examples.specs.Groups.{adding_machine, grigorchuk}

-- t of the adding machine, and a and b of Grigorchuk's group
abbrev pub t_term : Term
t_term = Name adding_machine 0

abbrev pub a_term : Term
a_term = Name grigorchuk 0

abbrev pub b_term : Term
b_term = Name grigorchuk 1

-- the names that a line sees below the block of the adding machine, and below that of Grigorchuk's group
abbrev pub adding_scope : Scope
adding_scope = bind_names adding_machine 0 (codes "t" ∷ []) []

abbrev pub grigorchuk_scope : Scope
grigorchuk_scope = bind_names grigorchuk 0 (codes "a" ∷ codes "b" ∷ codes "c" ∷ codes "d" ∷ []) []

-- an atom with one operation
abbrev pub with_one : Atom → Op → Factor
with_one atom op = roll-Factor (record { atom = atom; ops = op ∷ [] })

-- t^5
abbrev pub fifth_power : Expr
fifth_power = product (with_one (a.Named (codes "t")) (o.Power false 5) ∷ [])

-- t^-0
abbrev pub zeroth_power : Expr
zeroth_power = product (with_one (a.Named (codes "t")) (o.Power true 0) ∷ [])

-- t^-3
abbrev pub third_of_inverse : Expr
third_of_inverse = product (with_one (a.Named (codes "t")) (o.Power true 3) ∷ [])

-- b^a
abbrev pub conjugate : Expr
conjugate = product (with_one (a.Named (codes "b")) (o.Conj (a.Named (codes "a"))) ∷ [])

-- [a,b]
abbrev pub commutator : Expr
commutator = product (plain (a.Comm (product (plain (a.Named (codes "a")) ∷ [])) (product (plain (a.Named (codes "b")) ∷ []))) ∷ [])

-- 1
abbrev pub one : Expr
one = product (plain a.One ∷ [])

-- 1*1
abbrev pub one_times_one : Expr
one_times_one = product (plain a.One ∷ plain a.One ∷ [])

-- x*x
abbrev pub x_times_x : Expr
x_times_x = product (plain (a.Named (codes "x")) ∷ plain (a.Named (codes "x")) ∷ [])

-- t*t*zed, whose last name is bound nowhere
abbrev pub with_unknown : Expr
with_unknown = product (plain (a.Named (codes "t")) ∷ plain (a.Named (codes "t")) ∷ plain (a.Named (codes "zed")) ∷ [])

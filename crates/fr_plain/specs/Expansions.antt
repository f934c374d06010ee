-- The steps that an expression stands for, in the order in which they are evaluated, and the element that it makes. Operands
-- come before their operation, and operations from left to right. Conjugates and commutators are those of Robinson, A
-- Course in the Theory of Groups.
use Rattle.std.specs.Prelude.{ℕ, zero, suc, ◌/◌, ◌%◌, ◌==◌, nat_le, Bool, if◌then◌else◌, List, [], ◌∷◌, ◌++◌}
use Rattle.fr_model.specs.Terms.{Term, One}
use Rattle.fr_syntax.specs.declared.tree.Expr.{Expr, Expr-F, fold-Expr}
use Rattle.fr_syntax.specs.declared.tree.Factor.{Factor, Factor-F, fold-Factor}
use Rattle.fr_syntax.specs.declared.tree.Atom.{Atom, fold-Atom}
use Rattle.fr_syntax.specs.declared.tree.Op.{Op, fold-Op}
use Rattle.fr_syntax.specs.declared.tree.Atom.TheOpen.{Atom-F, Op-F}
use Rattle.fr_syntax.specs.declared.tree.Atom.TheOpen as layer
use Rattle.fr_plain.specs.Scopes.{Scope, bound}
use Rattle.fr_plain.specs.Steps.{Step, Looked, Identity, Inverted, Multiplied, Restricted, value_of}

-- steps, and the element that an expression with these steps stands for
pub record Expansion : Type 0 where
  pub steps : List Step
  pub value : Term

-- no step, and this element
abbrev pub given : Term → Expansion
given t = record { steps = []; value = t }

-- one step
abbrev pub step : Step → Expansion
step s = record { steps = s ∷ []; value = value_of s }

-- the steps of the first, then those that are made from its element
abbrev pub followed_by : Expansion → (Term → Expansion) → Expansion
followed_by e next = record { steps = e.steps ++ (next e.value).steps; value = (next e.value).value }

-- the inverse, in one step
abbrev pub inverse_of : Term → Expansion
inverse_of t = step (Inverted t)

-- the product, in one step
abbrev pub product_of : Term → Term → Expansion
product_of t u = step (Multiplied t u)

-- the power k > 0 by squaring: that of 1 is t, that of 2m the square of that of m, and that of 2m + 1 the same times t. The
-- first number bounds how often k is halved
abbrev pub power_within : ℕ → Term → ℕ → Expansion
power_within zero t k = given t
power_within (suc fuel) t k =
    if nat_le k 1 then given t
    else followed_by (power_within fuel t (k / 2)) (λ p. followed_by (product_of p p) (λ q. if k % 2 == 0 then given q else product_of q t))

-- the power k > 0 by squaring
abbrev pub power_of : Term → ℕ → Expansion
power_of t k = power_within k t k

-- the power with the exponent k or -k: the identity where k is 0, else the power by squaring, of the inverse for -k
abbrev pub signed_power : Bool → ℕ → Term → Expansion
signed_power negative k t =
    if k == 0 then step Identity
    else if negative then followed_by (inverse_of t) (λ g. power_of g k)
    else power_of t k

-- t^u = u^-1*t*u
abbrev pub conjugate_of : Term → Term → Expansion
conjugate_of t u = followed_by (inverse_of u) (λ g. followed_by (product_of g t) (λ p. product_of p u))

-- [t,u] = t^-1*u^-1*t*u
abbrev pub commutator_of : Term → Term → Expansion
commutator_of t u = followed_by (inverse_of t) (λ g. followed_by (inverse_of u) (λ h. followed_by (product_of g h) (λ p. followed_by (product_of p t) (λ q. product_of q u))))

-- an atom, whose parts stand for these
abbrev pub atom_layer : Scope → Atom-F Expansion (Term → Expansion) Expansion Expansion → Expansion
atom_layer scope layer.One = step Identity
atom_layer scope (layer.Named name) = step (Looked (bound scope name))
atom_layer scope (layer.Paren e) = e
atom_layer scope (layer.Comm left right) = followed_by left (λ t. followed_by right (λ u. commutator_of t u))

-- what an operation makes of an element
abbrev pub op_layer : Op-F Expansion (Term → Expansion) Expansion Expansion → Term → Expansion
op_layer (layer.Power negative k) t = signed_power negative k t
op_layer (layer.Conj a) t = followed_by a (λ u. conjugate_of t u)
op_layer (layer.At w) t = step (Restricted t w)

-- operations, from left to right
abbrev pub operations : Expansion → List (Term → Expansion) → Expansion
operations e [] = e
operations e (op ∷ ops) = operations (followed_by e op) ops

-- a factor, whose parts stand for these
abbrev pub factor_layer : Factor-F Expansion (Term → Expansion) Expansion Expansion → Expansion
factor_layer f = operations f.atom f.ops

-- factors, from left to right: each is multiplied as soon as it is there
abbrev pub factors_from : Expansion → List Expansion → Expansion
factors_from e [] = e
factors_from e (f ∷ fs) = factors_from (followed_by e (λ t. followed_by f (λ u. product_of t u))) fs

-- a product of factors; there is at least one
abbrev pub product_of_all : List Expansion → Expansion
product_of_all [] = given One
product_of_all (f ∷ fs) = factors_from f fs

-- an expression, whose factors stand for these
abbrev pub expr_layer : Expr-F Expansion (Term → Expansion) Expansion Expansion → Expansion
expr_layer e = product_of_all e.factors

-- what an expression stands for, where its names are bound so
unfoldable pub expansion : Scope → Expr → Expansion
expansion scope e = fold-Expr Expansion (Term → Expansion) Expansion Expansion (atom_layer scope) op_layer expr_layer factor_layer e

-- the same of an atom, an operation and a factor
unfoldable pub atom_expansion : Scope → Atom → Expansion
atom_expansion scope a = fold-Atom Expansion (Term → Expansion) Expansion Expansion (atom_layer scope) op_layer expr_layer factor_layer a

unfoldable pub op_expansion : Scope → Op → Term → Expansion
op_expansion scope op = fold-Op Expansion (Term → Expansion) Expansion Expansion (atom_layer scope) op_layer expr_layer factor_layer op

unfoldable pub factor_expansion : Scope → Factor → Expansion
factor_expansion scope f = fold-Factor Expansion (Term → Expansion) Expansion Expansion (atom_layer scope) op_layer expr_layer factor_layer f

-- expressions one after the other: their steps, and their elements
abbrev pub expansions : Scope → List Expr → List Expansion
expansions scope [] = []
expansions scope (e ∷ es) = expansion scope e ∷ expansions scope es

-- the steps of all, one after the other
abbrev pub steps_of_all : List Expansion → List Step
steps_of_all [] = []
steps_of_all (e ∷ es) = e.steps ++ steps_of_all es

-- the element of each
abbrev pub values_of_all : List Expansion → List Term
values_of_all [] = []
values_of_all (e ∷ es) = e.value ∷ values_of_all es

-- What the expressions of the examples stand for.
use Rattle.std.proofs.Common.{ℕ, ◌≡◌, Bool, List, [], ◌∷◌, map, ap, ◌∙◌}
use Rattle.std.specs.Prelude.{codes}
use Rattle.fr_model.specs.Terms.{Term}
use Rattle.fr_syntax.specs.declared.tree.Expr.{out-roll-Expr}
use Rattle.fr_syntax.specs.declared.tree.Factor.{Factor, roll-Factor}
use Rattle.fr_syntax.specs.declared.tree.Atom.{Atom}
use Rattle.fr_syntax.specs.declared.tree.Atom.TheVariants as a
use Rattle.fr_syntax.specs.declared.tree.Op.{Op}
use Rattle.fr_syntax.specs.declared.tree.Op.TheVariants as o
use Rattle.fr_syntax.specs.Values.{plain, product}
use Rattle.fr_plain.specs.Scopes.{Scope, bound}
use Rattle.fr_plain.specs.Steps.{Looked, Identity}
use Rattle.fr_plain.specs.Expansions.{Expansion, step, followed_by, signed_power, conjugate_of, commutator_of, operations, product_of_all, expansion, atom_expansion, op_expansion, factor_expansion}
use Rattle.fr_plain.proofs.ExpansionLaws.{expansion-out, factor_expansion-out, atom_expansion-One, atom_expansion-Named, atom_expansion-Comm, op_expansion-Power, op_expansion-Conj}
use Rattle.fr_plain_examples.specs.Scripts.{with_one, one, one_times_one, x_times_x, with_unknown}

product_is : (scope : Scope) (fs : List Factor) → expansion scope (product fs) ≡ product_of_all (map (factor_expansion scope) fs)
product_is scope fs = rw (out-roll-Expr (record { factors = fs })) at (expansion-out scope (product fs))

factor_is : (scope : Scope) (atom : Atom) (ops : List Op) → factor_expansion scope (roll-Factor (record { atom = atom; ops = ops })) ≡ operations (atom_expansion scope atom) (map (op_expansion scope) ops)
factor_is scope atom ops = factor_expansion-out scope (roll-Factor (record { atom = atom; ops = ops }))

-- a factor without operations
plain_is : (scope : Scope) (atom : Atom) (e : Expansion) → atom_expansion scope atom ≡ e → factor_expansion scope (plain atom) ≡ e
plain_is scope atom e h = factor_is scope atom [] ∙ h

-- an expression that is one such factor
only_is : (scope : Scope) (atom : Atom) (e : Expansion) → atom_expansion scope atom ≡ e → expansion scope (product (plain atom ∷ [])) ≡ e
only_is scope atom e h = product_is scope (plain atom ∷ []) ∙ plain_is scope atom e h

-- an expression that is one factor with one operation
with_is : (scope : Scope) (atom : Atom) (op : Op) (e : Expansion) (next : Term → Expansion) → atom_expansion scope atom ≡ e → op_expansion scope op ≡ next → expansion scope (product (with_one atom op ∷ [])) ≡ followed_by e next
with_is scope atom op e next h k = product_is scope (with_one atom op ∷ []) ∙ (factor_is scope atom (op ∷ []) ∙ (λ j. followed_by (h j) (k j)))

pub name_is : (scope : Scope) (name : List ℕ) → expansion scope (product (plain (a.Named name) ∷ [])) ≡ step (Looked (bound scope name))
name_is scope name = only_is scope (a.Named name) (step (Looked (bound scope name))) (atom_expansion-Named scope name)

pub power_is : (scope : Scope) (name : List ℕ) (negative : Bool) (k : ℕ) → expansion scope (product (with_one (a.Named name) (o.Power negative k) ∷ [])) ≡ followed_by (step (Looked (bound scope name))) (signed_power negative k)
power_is scope name negative k =
    with_is scope (a.Named name) (o.Power negative k) (step (Looked (bound scope name))) (signed_power negative k) (atom_expansion-Named scope name) (λ j. λ t. op_expansion-Power scope negative k t j)

pub conjugate_is : (scope : Scope) (name other : List ℕ) → expansion scope (product (with_one (a.Named name) (o.Conj (a.Named other)) ∷ [])) ≡ followed_by (step (Looked (bound scope name))) (λ t. followed_by (step (Looked (bound scope other))) (λ u. conjugate_of t u))
conjugate_is scope name other =
    with_is scope (a.Named name) (o.Conj (a.Named other)) (step (Looked (bound scope name))) (λ t. followed_by (step (Looked (bound scope other))) (λ u. conjugate_of t u)) (atom_expansion-Named scope name)
    (λ j. λ t. (op_expansion-Conj scope (a.Named other) t ∙ ap (λ (e : Expansion). followed_by e (λ u. conjugate_of t u)) (atom_expansion-Named scope other)) j)

pub commutator_is : (scope : Scope) (left right : List ℕ) → expansion scope (product (plain (a.Comm (product (plain (a.Named left) ∷ [])) (product (plain (a.Named right) ∷ []))) ∷ [])) ≡ followed_by (step (Looked (bound scope left))) (λ t. followed_by (step (Looked (bound scope right))) (λ u. commutator_of t u))
commutator_is scope left right =
    only_is scope (a.Comm (product (plain (a.Named left) ∷ [])) (product (plain (a.Named right) ∷ []))) (followed_by (step (Looked (bound scope left))) (λ t. followed_by (step (Looked (bound scope right))) (λ u. commutator_of t u)))
    (atom_expansion-Comm scope (product (plain (a.Named left) ∷ [])) (product (plain (a.Named right) ∷ [])) ∙ (λ j. followed_by (name_is scope left j) (λ t. followed_by (name_is scope right j) (λ u. commutator_of t u))))

pub one_is : (scope : Scope) → expansion scope one ≡ step Identity
one_is scope = only_is scope a.One (step Identity) (atom_expansion-One scope)

one_factor : (scope : Scope) → factor_expansion scope (plain a.One) ≡ step Identity
one_factor scope = plain_is scope a.One (step Identity) (atom_expansion-One scope)

name_factor : (scope : Scope) (name : List ℕ) → factor_expansion scope (plain (a.Named name)) ≡ step (Looked (bound scope name))
name_factor scope name = plain_is scope (a.Named name) (step (Looked (bound scope name))) (atom_expansion-Named scope name)

pub ones_are : (scope : Scope) → expansion scope one_times_one ≡ product_of_all (step Identity ∷ step Identity ∷ [])
ones_are scope = product_is scope (plain a.One ∷ plain a.One ∷ []) ∙ (λ j. product_of_all (one_factor scope j ∷ one_factor scope j ∷ []))

pub x_square_is : (scope : Scope) → expansion scope x_times_x ≡ product_of_all (step (Looked (bound scope (codes "x"))) ∷ step (Looked (bound scope (codes "x"))) ∷ [])
x_square_is scope = product_is scope (plain (a.Named (codes "x")) ∷ plain (a.Named (codes "x")) ∷ []) ∙ (λ j. product_of_all (name_factor scope (codes "x") j ∷ name_factor scope (codes "x") j ∷ []))

pub unknown_is : (scope : Scope) → expansion scope with_unknown ≡ product_of_all (step (Looked (bound scope (codes "t"))) ∷ step (Looked (bound scope (codes "t"))) ∷ step (Looked (bound scope (codes "zed"))) ∷ [])
unknown_is scope =
    product_is scope (plain (a.Named (codes "t")) ∷ plain (a.Named (codes "t")) ∷ plain (a.Named (codes "zed")) ∷ [])
    ∙ (λ j. product_of_all (name_factor scope (codes "t") j ∷ name_factor scope (codes "t") j ∷ name_factor scope (codes "zed") j ∷ []))

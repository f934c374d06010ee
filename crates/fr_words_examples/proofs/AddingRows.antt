-- The rows of the adding machine and of the identity.
use Rattle.std.proofs.Common.{ℕ, zero, suc, ◌≡◌, ◌<◌, List, [], ◌∷◌, refl, sym, ap, ◌∙◌, subst, arith}
use Rattle.std.specs.List.{IsDistinct}
use Rattle.std.proofs.lemmas.List.Elements.{All-from_recursion}
use Rattle.fr_model.specs.Permutations.{IsPermutation, identity_permutation}
use Rattle.fr_model.specs.Automata.{state_term}
use Rattle.fr_machine.specs.declared.row.Row.{Row}
use Rattle.fr_machine.specs.Minimal.{AreUnlike}
use Rattle.fr_machine.specs.Rows.{IsRow, IsMachine}

-- t = <1,t>(1,2) and 1, where t is row 0 and 1 is row 1
unfoldable pub rows_of : List ℕ → List ℕ → List Row
rows_of p q = record { perm = p; next = 1 ∷ 0 ∷ 0 ∷ 0 ∷ 0 ∷ 0 ∷ 0 ∷ 0 ∷ [] } ∷ record { perm = q; next = 1 ∷ 1 ∷ 0 ∷ 0 ∷ 0 ∷ 0 ∷ 0 ∷ 0 ∷ [] } ∷ []

swapping : IsPermutation 2 (2 ∷ 1 ∷ [])
unfolding IsDistinct
swapping = record { degree = refl; letters = ((omega arith, omega arith), ((omega arith, omega arith), tt)); distinct = ((refl, tt), (tt, tt)) }

staying : IsPermutation 2 (1 ∷ 2 ∷ [])
unfolding IsDistinct
staying = record { degree = refl; letters = ((omega arith, omega arith), ((omega arith, omega arith), tt)); distinct = ((refl, tt), (tt, tt)) }

is_row : (p : List ℕ) (x : ℕ) → IsPermutation 2 p → x < 2 → IsRow 2 2 (record { perm = p; next = 1 ∷ x ∷ 0 ∷ 0 ∷ 0 ∷ 0 ∷ 0 ∷ 0 ∷ [] })
is_row p x permutes l = record {
  permutes = permutes;
  width = refl;
  below = All-from_recursion (λ n. n < 2) (1 ∷ x ∷ 0 ∷ 0 ∷ 0 ∷ 0 ∷ 0 ∷ 0 ∷ []) (omega arith, (l, (omega arith, (omega arith, (omega arith, (omega arith, (omega arith, (omega arith, tt))))))));
  zeros = All-from_recursion (λ n. n ≡ 0) (0 ∷ 0 ∷ 0 ∷ 0 ∷ 0 ∷ 0 ∷ []) (refl, (refl, (refl, (refl, (refl, (refl, tt))))));
}

machine : IsMachine 2 (rows_of (2 ∷ 1 ∷ []) (1 ∷ 2 ∷ []))
unfolding rows_of
machine = record {
  few = omega arith;
  letters = omega arith;
  least = omega arith;
  most = omega arith;
  valid = All-from_recursion (IsRow 2 2) (rows_of (2 ∷ 1 ∷ []) (1 ∷ 2 ∷ [])) (is_row (2 ∷ 1 ∷ []) 0 swapping (omega arith), (is_row (1 ∷ 2 ∷ []) 1 staying (omega arith), tt));
}

unlike : AreUnlike (rows_of (2 ∷ 1 ∷ []) (1 ∷ 2 ∷ []))
unfolding rows_of state_term
unlike zero (suc zero) l m h = let e : ◌≡◌ {A = List ℕ} (2 ∷ []) (1 ∷ []) = h.images (1 ∷ []) in cc
unlike zero zero l m h = absurd (omega arith)
unlike s (suc (suc t)) l m h = absurd (omega arith)
unlike (suc s) zero l m h = absurd (omega arith)
unlike (suc s) (suc zero) l m h = absurd (omega arith)

-- the same, whatever names the alphabet and the permutations have
pub adding_rows : (a : ℕ) (p q : List ℕ) → a ≡ 2 → p ≡ 2 ∷ 1 ∷ [] → q ≡ identity_permutation a → IsMachine a (rows_of p q) × AreUnlike (rows_of p q)
adding_rows a p q e f g =
    let same : q ≡ 1 ∷ 2 ∷ [] = g ∙ ap identity_permutation e in
    subst (λ (x : ℕ × (List ℕ × List ℕ)). IsMachine x.0 (rows_of x.1.0 x.1.1) × AreUnlike (rows_of x.1.0 x.1.1)) (λ i. (sym e i, (sym f i, sym same i))) (machine, unlike)

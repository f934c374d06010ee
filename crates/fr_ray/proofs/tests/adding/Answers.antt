use Rattle.std.proofs.Common.{ℕ, zero, suc, ◌≡◌, ◌≢◌, List, [], ◌∷◌, Option, Some, sym, ap, ◌∙◌, refl, arith, subst}
use Rattle.std.specs.Prelude.{IfSome}
use Rattle.fr_model.specs.Automata.{state_term}
use Rattle.fr_machine.specs.declared.row.Row.{Row}
use Rattle.fr_machine.specs.Minimal.{AreReached, AreUnlike}
use Rattle.fr_ray.proofs.tests.adding.Goals as goal

-- the rows by their permutations
rows_by : List ℕ → List ℕ → List Row
rows_by swap stay = record { perm = swap; next = 1 ∷ 0 ∷ 0 ∷ 0 ∷ 0 ∷ 0 ∷ 0 ∷ 0 ∷ [] } ∷ record { perm = stay; next = 1 ∷ 1 ∷ 0 ∷ 0 ∷ 0 ∷ 0 ∷ 0 ∷ 0 ∷ [] } ∷ []

adding_rows : List Row
adding_rows = rows_by (2 ∷ 1 ∷ []) (1 ∷ 2 ∷ [])

adding_reached : AreReached 2 adding_rows
unfolding adding_rows rows_by
adding_reached zero l = ([], tt, refl)
adding_reached (suc zero) l = (1 ∷ [], ((omega arith, omega arith), tt), refl)
adding_reached (suc (suc s)) l = absurd (omega arith)

first_letter : (x y : ℕ) → x ≢ y → ◌≡◌ {A = List ℕ} (x ∷ []) (y ∷ []) → ⊥
first_letter x y n e = let f : x ≡ y = cc in n f

adding_unlike : AreUnlike adding_rows
unfolding adding_rows rows_by state_term
adding_unlike zero zero l k h = absurd (omega arith)
adding_unlike zero (suc zero) l k h = first_letter 2 1 (λ e. absurd (omega (arith, e))) (h.images (1 ∷ []))
adding_unlike zero (suc (suc t)) l k h = absurd (omega arith)
adding_unlike (suc s) t l k h = absurd (omega arith)

-- the images that a permutation was made of
images_of : (o : Option (List ℕ)) (p q : List ℕ) → o ≡ Some p → IfSome o (λ x. x ≡ q) → p ≡ q
images_of o p q e h = rw e at h

rows_are : (rows : List Row) (first second : Row) (swap stay : List ℕ) → rows ≡ first ∷ second ∷ [] → first ≡ record { perm = swap; next = 1 ∷ 0 ∷ 0 ∷ 0 ∷ 0 ∷ 0 ∷ 0 ∷ 0 ∷ [] } → second ≡ record { perm = stay; next = 1 ∷ 1 ∷ 0 ∷ 0 ∷ 0 ∷ 0 ∷ 0 ∷ 0 ∷ [] } → swap ≡ 2 ∷ 1 ∷ [] → stay ≡ 1 ∷ 2 ∷ [] → rows ≡ adding_rows
unfolding adding_rows rows_by
rows_are rows first second swap stay e f g h k = e ∙ ap (λ r. r ∷ second ∷ []) f ∙ ap (λ r. record { perm = swap; next = 1 ∷ 0 ∷ 0 ∷ 0 ∷ 0 ∷ 0 ∷ 0 ∷ 0 ∷ [] } ∷ r ∷ []) g ∙ ap (λ p. rows_by p stay) h ∙ ap (λ p. rows_by (2 ∷ 1 ∷ []) p) k

pub minimal-requires-clause-reached : goal.minimal-requires-clause-reached
minimal-requires-clause-reached c =
    let is = rows_are c.in_ok-rows.rows.items c.row.result c.row-2.result c.in_ok-swap.swap c.in_ok-stay.stay c.in_ok-rows.ensures.items c.row.ensures c.row-2.ensures
    (images_of c.of_images.result c.in_ok-swap.swap (2 ∷ 1 ∷ []) c.in_ok-swap.ensures.ok_part c.of_images.ensures.value) (images_of c.of_images-2.result c.in_ok-stay.stay (1 ∷ 2 ∷ []) c.in_ok-stay.ensures.ok_part c.of_images-2.ensures.value) in
    let P : List Row → Type 0 = λ rows. AreReached 2 rows in subst P (sym is) adding_reached

pub minimal-requires-clause-unlike : goal.minimal-requires-clause-unlike
minimal-requires-clause-unlike c =
    let is = rows_are c.in_ok-rows.rows.items c.row.result c.row-2.result c.in_ok-swap.swap c.in_ok-stay.stay c.in_ok-rows.ensures.items c.row.ensures c.row-2.ensures
    (images_of c.of_images.result c.in_ok-swap.swap (2 ∷ 1 ∷ []) c.in_ok-swap.ensures.ok_part c.of_images.ensures.value) (images_of c.of_images-2.result c.in_ok-stay.stay (1 ∷ 2 ∷ []) c.in_ok-stay.ensures.ok_part c.of_images-2.ensures.value) in
    let P : List Row → Type 0 = λ rows. AreUnlike rows in subst P (sym is) adding_unlike

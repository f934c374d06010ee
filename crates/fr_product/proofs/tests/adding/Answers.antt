use Rattle.std.proofs.Common.{◌≡◌, [], ◌∷◌, ◌++◌, refl, sym, ◌∙◌, ap, subst}
use Rattle.fr_model.specs.Permutations.{identity_permutation}
use Rattle.fr_machine.specs.Machine.{MachineView}
use Rattle.fr_machine.specs.Minimal.{IsMinimal}
use Rattle.fr_product.proofs.AddingLaws.{IsMinimal-adding, adding_rows}
use Rattle.fr_product.proofs.tests.adding.Goals as goal

pub of-requires : goal.of-requires
of-requires g c =
    let two : c.expect-a.result ≡ 2 = rw c.expect-a.ensures at c.new.ensures.value in
    let swap : c.expect-swap.result ≡ 2 ∷ 1 ∷ [] = rw c.expect-swap.ensures at c.of_images.ensures.value in
    let stay : c.identity.result ≡ 1 ∷ 2 ∷ [] = c.identity.ensures ∙ ap identity_permutation two in
    let rows : c.push-2.new.self.items ≡ adding_rows = c.in_ok-push-2.ensures.items
    ∙ ap (λ p. c.push.new.self.items ++ record { perm = p; next = 1 ∷ 1 ∷ 0 ∷ 0 ∷ 0 ∷ 0 ∷ 0 ∷ 0 ∷ [] } ∷ []) stay
    ∙ ap (λ rs. rs ++ record { perm = 1 ∷ 2 ∷ []; next = 1 ∷ 1 ∷ 0 ∷ 0 ∷ 0 ∷ 0 ∷ 0 ∷ 0 ∷ [] } ∷ []) (c.in_ok-push.ensures.items ∙ ap (λ p. c.new-rows.result.items ++ record { perm = p; next = 1 ∷ 0 ∷ 0 ∷ 0 ∷ 0 ∷ 0 ∷ 0 ∷ 0 ∷ [] } ∷ []) swap ∙ ap (λ rs. rs ++ record { perm = 2 ∷ 1 ∷ []; next = 1 ∷ 0 ∷ 0 ∷ 0 ∷ 0 ∷ 0 ∷ 0 ∷ 0 ∷ [] } ∷ []) c.new-rows.ensures.items) in
    let valid = c.new-2.ensures.accepts.0 (rw c.expect-m.ensures refl) in
    let is : c.expect-m.result ≡ record { alphabet = c.expect-a.result; rows = c.push-2.new.self.items } = rw c.expect-m.ensures at c.new-2.ensures.value in
    let P : MachineView → Type 0 = λ v. IsMinimal v.alphabet v.rows in
    subst P (sym is) (IsMinimal-adding c.expect-a.result c.push-2.new.self.items two rows valid)

use Rattle.std.proofs.Common.{ℕ, ◌≡◌, ◌++◌, [], ◌∷◌, List, map, drop, replicate, refl, sym, ap, subst, ◌∙◌}
use Rattle.fr_model.specs.Permutations.{IsPermutation, identity_permutation}
use Rattle.fr_model.proofs.PermutationLaws.{IsPermutation-identity}
use Rattle.fr_machine.specs.declared.row.Row.{Row}
use Rattle.fr_machine.specs.Rows.{states_of, IsMachine}
use Rattle.fr_product.specs.Spreading.{AreAlone, renumbered}
use Rattle.fr_product.proofs.AloneLaws.{made_all, IsMachine-alone, AreAlone-made}
use Rattle.fr_product.proofs.growing.alone.Goals as goal

pub from_rows-requires : goal.from_rows-requires
from_rows-requires c =
    let m = c.args.m.now in
    let start : Row = record { perm = c.identity.result; next = replicate 8 0 } in
    let made : c.loop-row.rows.items ≡ (start ∷ []) ++ map (renumbered c.args.first) (drop c.args.first m.rows) = made_all m.rows c.rows.result.now c.args.first c.loop-row.row-index start c.in_ok-rows.rows.items c.push.new.self.items c.loop-row.rows.items c.rows.ensures.value c.in_ok-rows.ensures.items c.in_ok-push.ensures.items c.loop-row-test.false c.loop-row.invariant in
    let P : List ℕ → Type 0 = IsPermutation m.alphabet in
    let p : IsPermutation m.alphabet c.identity.result = subst P (sym (c.identity.ensures ∙ ap identity_permutation c.alphabet.ensures.value)) (IsPermutation-identity m.alphabet) in
    let Q : ℕ → Type 0 = λ d. IsMachine d c.loop-row.rows.items in
    subst Q (sym c.alphabet-2.ensures.value) (IsMachine-alone m.alphabet c.args.first m.rows c.alphabet-2.ensures.valid c.requires.some c.requires.closed start p refl c.loop-row.rows.items made)

pub returns-clause-rows : goal.returns-clause-rows
returns-clause-rows c =
    let m = c.args.m.now in
    let start : Row = record { perm = c.identity.result; next = replicate 8 0 } in
    let made : c.loop-row.rows.items ≡ (start ∷ []) ++ map (renumbered c.args.first) (drop c.args.first m.rows) = made_all m.rows c.rows.result.now c.args.first c.loop-row.row-index start c.in_ok-rows.rows.items c.push.new.self.items c.loop-row.rows.items c.rows.ensures.value c.in_ok-rows.ensures.items c.in_ok-push.ensures.items c.loop-row-test.false c.loop-row.invariant in
    let P : List ℕ → Type 0 = IsPermutation m.alphabet in
    let p : IsPermutation m.alphabet c.identity.result = subst P (sym (c.identity.ensures ∙ ap identity_permutation c.alphabet.ensures.value)) (IsPermutation-identity m.alphabet) in
    let G : List Row → Type 0 = λ rows. AreAlone m.alphabet c.args.first (states_of m.rows) (states_of rows) in
    subst G (sym (ap (λ q. q.rows) c.from_rows.ensures)) (AreAlone-made m.alphabet c.args.first m.rows c.alphabet-2.ensures.valid c.requires.some c.requires.closed start p refl c.loop-row.rows.items made)

use Rattle.std.proofs.Common.{arith, ◌≡◌, ◌+◌, ◌-◌, ◌∙◌, ap, sym, subst, List, ℕ, take, drop}
use Rattle.std.specs.Prelude.{fold}
use Rattle.fr_model.specs.Permutations.{IsPermutation}
use Rattle.fr_canon.specs.CycleScans.{after_byte, first_scan}
use Rattle.fr_canon.proofs.CycleReadLaws.{scan_is}
use Rattle.fr_canon.proofs.StateLaws.{some_is}
use Rattle.fr_canon.proofs.cycles.perm_of.Goals as goal

pub returns-clause-found : goal.returns-clause-found
returns-clause-found c = λ p h e.
    let images = c.scan_cycles-images.result in
    let same = scan_is c.args.a p images (omega (arith, c.letters.ensures.value, c.letters.ensures.most)) h (c.scan_cycles-images.ensures ∙ ap (λ t. (fold after_byte first_scan t).images) e) in
    let width : 1 + c.letters.result - 1 ≡ c.args.a = omega (arith, c.letters.ensures.value) in
    let part : take (1 + c.letters.result - 1) (drop 1 images) ≡ p = ap (λ n. take n (drop 1 images)) width ∙ same in
    let P : List ℕ → Type 0 = λ is. IsPermutation c.args.a is in
    some_is c.of_images.result p (take (1 + c.letters.result - 1) (drop 1 images)) (c.of_images.ensures.accepts.1 (subst P (sym part) h)) c.of_images.ensures.value part

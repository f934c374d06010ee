use Rattle.std.proofs.Common.{arith, refl, suc, set, ◌+◌, ℕ, map, take, get_or, ◌≡◌, ◌<◌, ◌++◌, ◌∙◌, sym, ap, length}
use Rattle.std.proofs.lemmas.List.{get_or_default, get_or-map, length-map, get_or-take, length-take-le}
use Rattle.fr_model.specs.Permutations.{image}
use Rattle.fr_alphabet.specs.Padded.{padded}
use Rattle.fr_classes.proofs.SignatureLaws.{written, written_both, written_whole}
use Rattle.fr_classes.proofs.signature.signature.Goals as goal

pub loop-x-preserved : goal.loop-x-preserved
loop-x-preserved c =
    let of = c.args.of.now in
    let perm = c.args.row.now.perm in
    let next = c.args.row.now.next in
    let x = c.loop-x.x in
    let f = λ (n : ℕ). get_or of n 0 in
    let front = take (length perm) next in
    let lt : x < length perm = omega (arith, c.loop-x-test.true, c.loop-x.auto.x-end, c.letters-x-end.ensures.value) in
    let long : length front ≡ length perm = length-take-le (length perm) next (omega (arith, c.requires.width, c.letters-x-end.ensures.value, c.letters-x-end.ensures.most)) in
    let at : x + 1 ≡ suc x = omega arith in
    let output : c.apply.result ≡ get_or perm x 0 = c.apply.ensures.value ∙ ap (image perm) at ∙ sym (get_or_default perm x 0 (suc x) lt) in
    let target : get_or of (get_or next x 0) 0 ≡ get_or (map f front) x 0 = sym (get_or-map f front x 0 0 (omega arith) ∙ ap f (get_or-take (length perm) next x 0 lt)) in
    ap (λ xs. set (set xs x c.apply.result) (8 + x) (get_or of (get_or next x 0) 0)) c.loop-x.invariant
    ∙ written_both perm (map f front) x (8 + x) c.apply.result (get_or of (get_or next x 0) 0) lt (omega (arith, c.letters-x-end.ensures.value, c.letters-x-end.ensures.most)) (length-map front f ∙ long) refl output target

pub returns : goal.returns
returns c =
    let of = c.args.of.now in
    let perm = c.args.row.now.perm in
    let front = take (length perm) c.args.row.now.next in
    let f = λ (n : ℕ). get_or of n 0 in
    let end : length perm ≡ c.loop-x.x = omega (arith, c.loop-x-test.false, c.loop-x.auto.x-end, c.letters-x-end.ensures.value) in
    let long : length front ≡ length perm = length-take-le (length perm) c.args.row.now.next (omega (arith, c.requires.width, c.letters-x-end.ensures.value, c.letters-x-end.ensures.most)) in
    c.loop-x.invariant ∙ ap (λ xs. xs ++ written (map f front) c.loop-x.x) (written_whole perm c.loop-x.x end) ∙ ap (λ xs. padded perm ++ xs) (written_whole (map f front) c.loop-x.x (length-map front f ∙ long ∙ end))

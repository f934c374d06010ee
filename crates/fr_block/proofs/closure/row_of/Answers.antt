use Rattle.std.proofs.Common.{ℕ, [], suc, ◌≡◌, ◌+◌, ◌<◌, List, length, take, inl, inr, set, get_or, refl, subst, sym, ap, ◌∙◌, arith}
use Rattle.std.proofs.lemmas.List.{get_or-set_same, get_or-set_other, length-set, get_or-take, length-take-le}
use Rattle.std.proofs.lemmas.Bool.{cases_lt}
use Rattle.fr_model.specs.Permutations.{IsPermutation, image}
use Rattle.fr_model.specs.Systems.{System, product_output}
use Rattle.fr_model.specs.Systems.{Factor}
use Rattle.fr_block.specs.Blocks.{IsBlock}
use Rattle.fr_block.specs.Blocks.{AreNames, product_of}
use Rattle.fr_block.proofs.ReductionLaws.{AreNames-section}
use Rattle.fr_block.proofs.ClosureLaws.{IsRowPart-more, IsRowPassed-from, numbered_is, passed_is, section_is}
use Rattle.fr_block.proofs.OutputLaws.{images_permute}
use Rattle.fr_block.proofs.closure.row_of.Goals as goal

pub returns-in-None : goal.returns-in-None
returns-in-None c =
    let d = c.args.block.now.alphabet in
    let s = c.args.block.now.system in
    let ws = c.args.words.now in
    let vs = c.loop-x.words in
    let w = product_of (take c.in_ok-found.found.count c.deref.result.now) in
    let e = section_is s ws vs c.args.number c.loop-x.x (product_of c.word.result.now) w c.loop-x.invariant.part.extends c.requires.number c.word.ensures (ap (λ ms. product_of (take c.in_ok-found.found.count ms)) c.deref.ensures.value ∙ c.in_ok-found.ensures.word) in
    let p = passed_is vs c.number.new.self w c.in_ok-target.field-0 c.in_ok-target.ensures c.in-None.is in
    IsRowPassed-from d s ws vs c.number.new.self (get_or ws c.args.number []) c.loop-x.next c.loop-x.x w c.loop-x.invariant.part (omega (arith, c.loop-x-test.true, c.letters-x-end.ensures.value, c.alphabet-a.ensures.value)) e p

pub loop-x-preserved : goal.loop-x-preserved
loop-x-preserved c =
    let d = c.args.block.now.alphabet in
    let s = c.args.block.now.system in
    let ws = c.args.words.now in
    let vs = c.loop-x.words in
    let b = c.alphabet-a.ensures.valid in
    let w = product_of (take c.in_ok-found.found.count c.deref.result.now) in
    let fs = get_or ws c.args.number [] in
    let e = section_is s ws vs c.args.number c.loop-x.x (product_of c.word.result.now) w c.loop-x.invariant.part.extends c.requires.number c.word.ensures (ap (λ ms. product_of (take c.in_ok-found.found.count ms)) c.deref.ensures.value ∙ c.in_ok-found.ensures.word) in
    let known = subst (AreNames s) (sym e) (AreNames-section d s b.system fs (suc c.loop-x.x) (c.requires.words.known c.args.number [] c.requires.number)) in
    let n = numbered_is vs c.number.new.self w c.in_ok-target.field-0 c.in-Some.target c.in_ok-target.ensures c.in-Some.is in
    let lt : c.loop-x.x < d = omega (arith, c.loop-x-test.true, c.letters-x-end.ensures.value, c.alphabet-a.ensures.value) in
    let image : c.in_ok-found.found.image ≡ product_output s fs (suc c.loop-x.x) =
    c.in_ok-found.ensures.image ∙ ap (λ gs. product_output s gs (c.loop-x.x + 1)) (c.word.ensures ∙ c.loop-x.invariant.part.extends.1 c.args.number c.requires.number) ∙ ap (product_output s fs) (omega arith) in
    record {
      part = IsRowPart-more d s ws vs c.number.new.self fs c.loop-x.next _ c.loop-x.x c.in-Some.target w c.loop-x.invariant.part lt b.letters known e n refl;
      width = length-set c.loop-x.images c.loop-x.x c.in_ok-found.found.image ∙ c.loop-x.invariant.width;
      images = λ k l. elim (cases_lt k c.loop-x.x) [
        | inl g ↦ get_or-set_other c.loop-x.images c.loop-x.x k c.in_ok-found.found.image 0 (λ j. omega (arith, j, g)) ∙ c.loop-x.invariant.images k g
        | inr g ↦
            let at : c.loop-x.x ≡ k = omega (arith, l, g) in
            ap (λ j. get_or (set c.loop-x.images c.loop-x.x c.in_ok-found.found.image) j 0) (sym at) ∙ get_or-set_same c.loop-x.images c.loop-x.x c.in_ok-found.found.image 0 (omega (arith, c.loop-x.invariant.width, lt, b.letters)) ∙ image ∙ ap (λ j. product_output s fs (suc j)) at
      ];
    }

-- the images of all letters are a permutation, which is what the product puts out
whole : (d n : ℕ) (s : System) (fs : List Factor) (images : List ℕ) → IsBlock d s → AreNames s fs → n ≡ d → length images ≡ 8 → ((k : ℕ) → k < d → get_or images k 0 ≡ product_output s fs (suc k)) → IsPermutation d (take n images) × ((x : ℕ) → image (take n images) x ≡ product_output s fs x)
whole d n s fs images b known e width at =
    let size : length (take n images) ≡ d = length-take-le n images (omega (arith, e, width, b.letters)) ∙ e in
    images_permute d s b.system fs known (take n images) size (λ k l. get_or-take n images k 0 (omega (arith, e, l)) ∙ at k l)

pub unwrap-perm-requires : goal.unwrap-perm-requires
unwrap-perm-requires c =
    let d = c.args.block.now.alphabet in
    let s = c.args.block.now.system in
    let ws = c.args.words.now in
    let n : c.letters.result ≡ d = c.letters.ensures.value ∙ c.alphabet-a.ensures.value in
    let end : (k : ℕ) → k < d → k < c.loop-x.x = λ k l. omega (arith, l, c.loop-x-test.false, c.letters-x-end.ensures.value, c.alphabet-a.ensures.value) in
    let w = whole d c.letters.result s (get_or ws c.args.number []) c.loop-x.images c.alphabet-a.ensures.valid (c.requires.words.known c.args.number [] c.requires.number) n c.loop-x.invariant.width (λ k l. c.loop-x.invariant.images k (end k l)) in
    c.of_images.ensures.accepts.1 (rw c.alphabet-a.ensures.value w.0)

use Rattle.std.proofs.Common.{◌≡◌, ◌≤◌, sym, ◌∙◌, ap, take, map, length-set, arith, ℕ, List, subst, true, false}
use Rattle.fr_model.specs.Permutations.{IsPermutation, numbers_from}
use Rattle.fr_script.specs.Cycles.{disjoint_cycles_image, cycles_permutation}
use Rattle.fr_script.proofs.CycleLaws.{image_more, IsPermutation-cycles}
use Rattle.fr_script.proofs.permutation.cycles_permutation.Goals as goal

pub loop-x-preserved : goal.loop-x-preserved
loop-x-preserved c = record {
  long = length-set c.loop-x.images c.loop-x.x c.image_of.result ∙ c.loop-x.invariant.long;
  written = image_more c.args.cycles.now c.loop-x.images c.loop-x.x c.image_of.result
      (omega (arith, c.loop-x-test.true, c.letters-d.ensures.most, c.loop-x.invariant.long)) c.loop-x.invariant.written c.image_of.ensures;
}

-- all images are written
all_written : (d a x : ℕ) (images : List ℕ) (cycles : List (List ℕ)) → d ≡ a → d ≤ x → x ≤ d → take x images ≡ map (disjoint_cycles_image cycles) (numbers_from 1 x) →
    take d images ≡ cycles_permutation a cycles
all_written d a x images cycles e f g h =
    let here : x ≡ d = omega arith in
    ap (λ n. take n images) (sym here) ∙ h ∙ ap (λ n. map (disjoint_cycles_image cycles) (numbers_from 1 n)) (here ∙ e)

pub unreachable-requires : goal.unreachable-requires
unreachable-requires c =
    let all = all_written c.letters-d.result c.args.a c.loop-x.x c.loop-x.images c.args.cycles.now c.letters-d.ensures.value c.loop-x-test.false c.loop-x.auto.x-end
    c.loop-x.invariant.written in
    let permutes = IsPermutation-cycles c.args.a c.args.cycles.now c.requires.letters c.requires.once in
    let P : List ℕ → Type 0 = λ l. IsPermutation c.args.a l in
    let some : false ≡ true = c.in-None.ensures.accepts.1 (subst P (sym all) permutes) in
    cc

pub returns : goal.returns
returns c =
    c.in-Some.ensures.value
    ∙ all_written c.letters-d.result c.args.a c.loop-x.x c.loop-x.images c.args.cycles.now c.letters-d.ensures.value c.loop-x-test.false c.loop-x.auto.x-end
    c.loop-x.invariant.written

use Rattle.std.proofs.Common.{get_or, take, ◌∙◌, sym}
use Rattle.std.specs.List.{IsDistinct}
use Rattle.std.proofs.lemmas.List.{take_more}
use Rattle.fr_alphabet.proofs.Images.{refused_low, refused_high, refused_twice, IsDistinct-more, IsWord-push}
use Rattle.fr_alphabet.proofs.perm.is_permutation.Goals as goal
use Rattle.fr_alphabet.proofs.perm.is_permutation.Goals.{then-image-lt1-via-then-image-lt1, then-image-lt1-via-else-image-lt1+then-image-d, then-image-lt1-via-else-image-lt1+else-image-d+then-contains}

pub loop-i-init : goal.loop-i-init
unfolding IsDistinct
loop-i-init c = record { letters = tt; distinct = tt }

pub returns-then-image-lt1 : goal.returns-then-image-lt1
returns-then-image-lt1 c =
    let at = c.loop-i-test.true in
    elim c.then-image-lt1.branch [
      | then-image-lt1-via-then-image-lt1 w ↦ refused_low c.args.d c.args.images.now c.loop-i.i at w.if-image-lt1.true
      | then-image-lt1-via-else-image-lt1+then-image-d w ↦ refused_high c.args.d c.args.images.now c.loop-i.i at w.if-image-d.true
      | then-image-lt1-via-else-image-lt1+else-image-d+then-contains w ↦ refused_twice c.args.d c.args.images.now c.loop-i.i at (sym w.contains.ensures.value ∙ w.if-contains.true)
    ]

pub loop-i-preserved : goal.loop-i-preserved
loop-i-preserved c =
    let at = c.loop-i-test.true in
    let e = take_more c.args.images.now c.loop-i.i 0 at in
    record {
      letters = rw e (IsWord-push c.args.d (take c.loop-i.i c.args.images.now) (get_or c.args.images.now c.loop-i.i 0) c.loop-i.invariant.letters (c.if-image-lt1.false, c.if-image-d.false));
      distinct = IsDistinct-more c.args.images.now c.loop-i.i at c.loop-i.invariant.distinct (sym c.contains.ensures.value ∙ c.if-contains.false);
    }

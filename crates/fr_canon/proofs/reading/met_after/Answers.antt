use Rattle.std.proofs.Common.{arith, refl, suc, ◌≡◌, ◌<◌, ◌∙◌, take, get_or}
use Rattle.std.specs.Prelude.{max}
use Rattle.std.proofs.lemmas.List.Elements.{All-get_or, All-take}
use Rattle.fr_canon.proofs.OrderReadLaws.{met_more}
use Rattle.fr_canon.proofs.reading.met_after.Goals as goal

pub loop-next-preserved : goal.loop-next-preserved
loop-next-preserved c =
    let xs = take c.args.d c.args.row.now.next in
    let next = get_or xs c.loop-next.next-index 0 in
    let n = c.requires.row.0 in
    let below : next < n = All-get_or (λ m. m < n) xs c.loop-next.next-index 0 c.loop-next-test.true (All-take (λ m. m < n) c.args.d c.args.row.now.next c.requires.row.2.below) in
    let more = met_more c.args.before n xs c.loop-next.next-index c.loop-next.met next c.loop-next-test.true refl c.if-next-met.false c.loop-next.invariant.met c.loop-next.invariant.numbered in
    let e : c.max-met.result ≡ max c.loop-next.met (suc next) = omega (arith, c.max-met.ensures) in
    record {
      few = omega (arith, e, below, c.requires.row.1, c.loop-next.invariant.few);
      met = e ∙ more.0;
      numbered = more.1;
    }

use Rattle.std.proofs.Common.{refl, ◌∙◌, ◌++◌, ◌∷◌, ap, sym}
use Rattle.std.specs.Fmt.{decimal}
use Rattle.fr_canon.proofs.ReadLaws.{no_next, IsNextPart-more}
use Rattle.fr_canon.proofs.lines.read_next.Goals as goal

pub returns-in_default : goal.returns-in_default
returns-in_default c = no_next c.args.d c.args.count c.args.text.now c.loop-x.rest.now c.loop-x.next c.loop-x.x c.loop-x.invariant c.loop-x-test.true c.requires.few
    (λ m r a b e. c.in_default.ensures m r a b (e ∙ ap (λ z. decimal m ++ z ∷ r) (sym c.end_of.ensures.value)))

pub loop-x-preserved : goal.loop-x-preserved
loop-x-preserved c =
    let read = c.in-Some.ensures in
    IsNextPart-more c.args.d c.args.count c.args.text.now c.loop-x.rest.now c.loop-x.next c.loop-x.x c.loop-x.invariant c.loop-x-test.true c.requires.few c.requires.letters c.in-Some.number c.in-Some.more.now _ read.0 read.1
    (read.2 ∙ ap (λ z. decimal c.in-Some.number ++ z ∷ c.in-Some.more.now) c.end_of.ensures.value) refl

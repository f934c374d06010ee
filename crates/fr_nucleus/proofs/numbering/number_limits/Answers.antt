use Rattle.std.proofs.Common.{◌≡◌, ◌∙◌, ◌+◌, sym, subst, length}
use Rattle.fr_machine.specs.Walks.{WalkView}
use Rattle.fr_nucleus.specs.Numberings.{AreNumbered}
use Rattle.fr_nucleus.proofs.NumberingLaws.{AreNumbered-more, AreNumbered-pass}
use Rattle.fr_nucleus.proofs.numbering.number_limits.Goals as goal
use Rattle.fr_nucleus.proofs.numbering.number_limits.Goals.{then-limits-s+in_ok-number_class, else-limits-s}

pub loop-s-preserved : goal.loop-s-preserved
loop-s-preserved c =
    let of = c.args.of.now in
    let marks = c.args.limits.now in
    let old = c.args.walk.now.keys in
    let P : WalkView → Type 0 = λ w. record { bound : w.bound ≡ length of; numbers : AreNumbered of marks old w.keys c.args.most (c.loop-s.s + 1) } in
    elim c.if-limits-s.branch [
      | then-limits-s+in_ok-number_class w ↦
          subst P (sym w.walk-is) (record {
            bound = w.in_ok-number_class.ensures.bound ∙ c.loop-s.invariant.bound;
            numbers = AreNumbered-more of marks old c.loop-s.walk.keys w.number_class.new.walk.keys c.args.most c.loop-s.s c.loop-s.invariant.numbers c.loop-s-test.true w.if-limits-s.true w.in_ok-number_class.ensures.keys;
          })
      | else-limits-s w ↦
          subst P (sym w.walk-is) (record {
            bound = c.loop-s.invariant.bound;
            numbers = AreNumbered-pass of marks old c.loop-s.walk.keys c.args.most c.loop-s.s c.loop-s.invariant.numbers w.if-limits-s.false;
          })
    ]

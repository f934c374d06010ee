use Rattle.std.proofs.Common.{refl}
use Rattle.fr_classes.proofs.ChoiceLaws.{IsChoicePart-start, IsChoicePart-more, IsChoice-from}
use Rattle.fr_classes.proofs.choices.choice.Goals as goal

pub loop-s-init : goal.loop-s-init
loop-s-init c = IsChoicePart-start c.args.of.now c.in_ok-chosen.chosen.items (c.in_ok-chosen.ensures.items_if_clones_equal (λ y e. e))

pub loop-s-preserved : goal.loop-s-preserved
loop-s-preserved c = IsChoicePart-more c.args.of.now c.loop-s.chosen.items _ c.loop-s.s c.loop-s.invariant c.loop-s-test.true c.requires.below refl

pub returns : goal.returns
returns c = IsChoice-from c.args.of.now c.loop-s.chosen.items c.loop-s.s c.loop-s.invariant c.loop-s-test.false c.requires.below

use Rattle.fr_classes.proofs.PredecessorLaws.{IsFilled-start}
use Rattle.fr_classes.proofs.predecessors.Predecessors.new.Goals as goal

pub loop-s-init : goal.loop-s-init
loop-s-init c = IsFilled-start c.args.rows.now _ c.new.ensures.items (c.in_ok-vec.ensures.items_if_clones_equal (λ y e. e))

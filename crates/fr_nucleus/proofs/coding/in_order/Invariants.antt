use Rattle.fr_nucleus.proofs.SortingLaws.{AreMachinesOf}
use Rattle.fr_nucleus.proofs.coding.in_order.Given as goal

abbrev pub invariant-loop-item : goal.invariant-loop-item
invariant-loop-item l = AreMachinesOf l.m.alphabet l.m.rows l.item-items l.members.items l.item-index

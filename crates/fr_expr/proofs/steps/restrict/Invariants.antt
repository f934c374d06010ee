use Rattle.std.proofs.Common.{take}
use Rattle.fr_model.specs.Terms.{Term, Section}
use Rattle.fr_store.specs.Store.{IsKnown, Stands, Reads}
use Rattle.fr_expr.proofs.steps.restrict.Given as goal

abbrev pub invariant-loop-x : goal.invariant-loop-x
invariant-loop-x g l =
    IsKnown (g.S.Store.view.known l.store) l.h
    × Reads g.S.Store.view l.fn.store l.store
    × ((t : Term) → Stands g.S.Store.view l.fn.store l.fn.a t → Stands g.S.Store.view l.store l.h (Section t (take l.x-index l.x-items)))

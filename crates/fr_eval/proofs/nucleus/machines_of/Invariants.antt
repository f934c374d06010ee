use Rattle.std.proofs.Common.{◌≡◌, List, length, take}
use Rattle.fr_model.specs.Terms.{Term}
use Rattle.fr_nucleus.specs.Elements.{elements_of, AreOver}
use Rattle.fr_store.specs.Store.{Reads}
use Rattle.fr_eval.specs.Generators.{StandForAll, AreAlikeTerms}
use Rattle.fr_eval.proofs.nucleus.machines_of.Given as goal

abbrev pub invariant-loop-h : goal.invariant-loop-h
invariant-loop-h g l = record {
  reads : Reads g.S.Store.view l.fn.store l.store;
  count : length l.machines.items ≡ l.h-index;
  over : AreOver (g.S.Store.view.alphabet l.fn.store) l.machines.items;
  machines : (ts : List Term) → StandForAll (g.S.Store.view.alphabet l.fn.store) (g.S.Store.view.known l.fn.store) (take l.h-index l.handles) ts → AreAlikeTerms (g.S.Store.view.alphabet l.fn.store) (elements_of l.machines.items) ts;
}

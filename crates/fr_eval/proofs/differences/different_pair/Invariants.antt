use Rattle.std.proofs.Common.{ℕ, ◌<◌, ◌∷◌, []}
use Rattle.fr_model.specs.Words.{IsLetter}
use Rattle.fr_model.specs.Terms.{Term, Section}
use Rattle.fr_store.specs.Store.{Stands, Reads}
use Rattle.fr_eval.specs.Differences.{AgreeOn}
use Rattle.fr_eval.proofs.differences.different_pair.Given as goal

abbrev pub invariant-loop-x : goal.invariant-loop-x
invariant-loop-x g l = record {
  reads : Reads g.S.Store.view l.fn.store l.store;
  agree : (t u : Term) → Stands g.S.Store.view l.fn.store l.fn.a t → Stands g.S.Store.view l.fn.store l.fn.b u
      → (y : ℕ) → IsLetter (g.S.Store.view.alphabet l.fn.store) y → y < l.x → AgreeOn (g.S.Store.view.alphabet l.fn.store) (Section t (y ∷ [])) (Section u (y ∷ [])) 1;
}

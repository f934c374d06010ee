use Rattle.std.proofs.Common.{ℕ, ◌≡◌, ◌≤◌, ◌∷◌, []}
use Rattle.fr_model.specs.Permutations.{image}
use Rattle.fr_model.specs.Terms.{Term, Section, IsAlike}
use Rattle.fr_store.specs.Store.{IsKnown, Stands, Reads}
use Rattle.fr_eval.proofs.order.is_identity.Given as goal

abbrev pub invariant-loop-x : goal.invariant-loop-x
invariant-loop-x g l = record {
  known : IsKnown (g.S.Store.view.known l.store) l.h;
  reads : Reads g.S.Store.view l.fn.store l.store;
  puts : (y : ℕ) → 1 ≤ y → y ≤ l.x → image l.perm y ≡ y;
  same : (t : Term) → Stands g.S.Store.view l.fn.store l.fn.h t → (y : ℕ) → 1 ≤ y → y ≤ l.x → IsAlike (Section t (y ∷ [])) t;
}

-- What handles stand for before and behind calls of a store that only read.
use Rattle.std.proofs.Common.{ℕ, sym, subst}
use Rattle.fr_model.specs.Terms.{Term}
use Rattle.fr_store.specs.declared.handle.Handle.{Handle}
use Rattle.fr_store.specs.Store.{View, IsKnown, Stands, StandsForTerm, Reads}
use Rattle.fr_store.proofs.StoreLaws.{IsKnown-keeps, Keeps-same, stands_back}
use Rattle.fr_expr.proofs.EvaluationLaws.{carries}

module _ {S : Type 0} (view : View S) where
  pub known_after : (old new : S) (h : Handle) → Reads view old new → IsKnown (view.known old) h → IsKnown (view.known new) h
  known_after old new h reads known = IsKnown-keeps (view.known old) (view.known new) h (Keeps-same (view.known old) (view.known new) reads.known) known

  pub stands_after : (old new : S) (h : Handle) (t : Term) → Reads view old new → Stands view old h t → Stands view new h t
  stands_after old new h t reads s = carries view old new h t reads.continues (Keeps-same (view.known old) (view.known new) reads.known) s

  pub stands_before : (old new : S) (h : Handle) (t : Term) → Reads view old new → Stands view new h t → Stands view old h t
  stands_before old new h t reads s =
      stands_back (view.alphabet old) (view.known old) (view.known new) h t reads.known (subst (λ (d : ℕ). StandsForTerm d (view.known new) h t) reads.continues.alphabet s)

  -- what a call said over the letters of the store before it
  pub stands_over : (old new : S) (h : Handle) (t : Term) → Reads view old new → StandsForTerm (view.alphabet old) (view.known new) h t → Stands view new h t
  stands_over old new h t reads s = subst (λ (d : ℕ). StandsForTerm d (view.known new) h t) (sym reads.continues.alphabet) s

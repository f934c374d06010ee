-- Inverses that a store on blocks of rows remembers, and the identity.
use Rattle.std.proofs.Common.{ℕ, suc, ◌≡◌, ◌+◌, List, length, get_or, set, subst, arith, Option, Some}
use Rattle.std.specs.List.{All, Contains}
use Rattle.std.proofs.Math.Logic.{∥∥₁_elim, ∥∥₁_map}
use Rattle.std.proofs.lemmas.List.Elements.{All-set}
use Rattle.fr_model.specs.Terms.{Term, One, Inverse, IsAlike}
use Rattle.fr_model.proofs.AlikeLaws.{alike_trans, alike_inverse}
use Rattle.fr_store.specs.declared.handle.Handle.{Handle}
use Rattle.fr_store.specs.declared.inverses.Entry.{Entry}
use Rattle.fr_store.specs.Store.{StandsForTerm, IsKnown, Keeps, AreHandles, IsInverseOf}
use Rattle.fr_store.specs.Inverses.{IsInverseEntry, AreInverses, IsIdentity}
use Rattle.fr_store.proofs.StoreLaws.{IsKnown-IsProp, IsAlike-IsProp, IsKnown-stands, IsKnown-term, stands_alike, stands_both, stands_keeps}

-- ---- inverses, when more becomes known
IsInverseOf-keeps : (d : ℕ) (old new : ℕ → Option (List ℕ)) (a b : Handle) → Keeps old new → IsInverseOf d old a b → IsInverseOf d new a b
IsInverseOf-keeps d old new a b k p = record {
  element = p.element;
  element_at = stands_keeps d old new a p.element k p.element_at;
  inverse_at = stands_keeps d old new b (Inverse p.element) k p.inverse_at;
}

pub AreInverses-keeps : (d : ℕ) (old new : ℕ → Option (List ℕ)) (entries : List Entry) → Keeps old new → AreInverses d old entries → AreInverses d new entries
AreInverses-keeps d old new entries k p i z l n e = ∥∥₁_map (p i z l n e) (IsInverseOf-keeps d old new (record { node = (get_or entries i z).element }) (record { node = n }) k)

-- no inverses
pub AreInverses-none : (d : ℕ) (known : ℕ → Option (List ℕ)) (entries : List Entry) → All (λ (e : Entry). e.inverse ≡ 0) entries → AreInverses d known entries
AreInverses-none d known entries z i x l n e = absurd (let o = z i x l in omega (arith, o, e))

-- one that is kept in the place of another
pub AreInverses-put : (d : ℕ) (known : ℕ → Option (List ℕ)) (entries : List Entry) (i a b : ℕ) → IsInverseOf d known (record { node = a }) (record { node = b }) → AreInverses d known entries → AreInverses d known (set entries i (record { element = a; inverse = b + 1 }))
AreInverses-put d known entries i a b p all = All-set (IsInverseEntry d known) entries i (record { element = a; inverse = b + 1 }) (λ n e. put n (omega (arith, e))) all
  where
    put : (n : ℕ) → b ≡ n → ∥ IsInverseOf d known (record { node = a }) (record { node = n }) ∥₁
    put n e = let P : ℕ → Type 0 = λ k. IsInverseOf d known (record { node = a }) (record { node = k }) in ∣ subst P e p ∣₁

-- one that is found
pub AreInverses-found : (d : ℕ) (known : ℕ → Option (List ℕ)) (entries : List Entry) (a b : ℕ) → AreInverses d known entries → Contains entries (record { element = a; inverse = b + 1 }) → ∥ IsInverseOf d known (record { node = a }) (record { node = b }) ∥₁
AreInverses-found d known entries a b all h =
    let one : b + 1 ≡ suc b = omega arith in
    let here = all h.0 (record { element = a; inverse = b + 1 }) h.1 in
    let P : Entry → Type 0 = λ e. IsInverseEntry d known e in
    (subst P h.2 here) b one

-- ---- inverses that are recalled
module _ (d : ℕ) (known : ℕ → Option (List ℕ)) (handles : AreHandles d known) (a b : Handle) (p : ∥ IsInverseOf d known a b ∥₁) where
  pub IsKnown-inverse : IsKnown known b
  IsKnown-inverse = ∥∥₁_elim p (IsKnown-IsProp known b) (λ q. IsKnown-stands d known b (Inverse q.element) q.inverse_at)

  alike-recalled : (t v : Term) → StandsForTerm d known a t → StandsForTerm d known b v → IsAlike v (Inverse t)
  alike-recalled t v x z = ∥∥₁_elim p (IsAlike-IsProp v (Inverse t)) (λ q. alike q)
    where
      alike : IsInverseOf d known a b → IsAlike v (Inverse t)
      alike q = alike_trans (stands_both d known b v (Inverse q.element) z q.inverse_at) (alike_inverse d q.element_at.term x.term (stands_both d known a q.element t q.element_at x))

  pub recalled_inverse : (t : Term) → StandsForTerm d known a t → StandsForTerm d known b (Inverse t)
  recalled_inverse t x =
      let v = IsKnown-term d known b handles IsKnown-inverse in
      stands_alike d known b v.0 (Inverse t) v.1 x.term (alike-recalled t v.0 x v.1)

-- ---- the identity
pub IsIdentity-keeps : (d : ℕ) (old new : ℕ → Option (List ℕ)) (kept : Option Handle) → Keeps old new → IsIdentity d old kept → IsIdentity d new kept
IsIdentity-keeps d old new kept k p h e = ∥∥₁_map (p h e) (stands_keeps d old new h One k)

-- one that is recalled
module _ (d : ℕ) (known : ℕ → Option (List ℕ)) (handles : AreHandles d known) (h : Handle) (p : ∥ StandsForTerm d known h One ∥₁) where
  IsKnown-identity : IsKnown known h
  IsKnown-identity = ∥∥₁_elim p (IsKnown-IsProp known h) (IsKnown-stands d known h One)

  pub recalled_identity : StandsForTerm d known h One
  recalled_identity =
      let v = IsKnown-term d known h handles IsKnown-identity in
      stands_alike d known h v.0 One v.1 tt (∥∥₁_elim p (IsAlike-IsProp v.0 One) (stands_both d known h v.0 One v.1))

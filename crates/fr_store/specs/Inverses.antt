-- Inverses of handles that are remembered, and the handle of the identity. This project's own, after the products.
use Rattle.std.specs.Prelude.{ℕ, suc, ◌≡◌, List, Option, Some}
use Rattle.std.specs.List.{All}
use Rattle.fr_model.specs.Terms.{One}
use Rattle.fr_store.specs.declared.handle.Handle.{Handle}
use Rattle.fr_store.specs.declared.inverses.Entry.{Entry}
use Rattle.fr_store.specs.Store.{StandsForTerm, IsInverseOf}

-- where the entry is in use, it tells the inverse of a handle
abbrev pub IsInverseEntry : ℕ → (ℕ → Option (List ℕ)) → Entry → Type 0
IsInverseEntry d known e = (n : ℕ) → e.inverse ≡ suc n → ∥ IsInverseOf d known (record { node = e.element }) (record { node = n }) ∥₁

-- each entry that is in use tells the inverse of a handle
abbrev pub AreInverses : ℕ → (ℕ → Option (List ℕ)) → List Entry → Type 0
AreInverses d known entries = All (IsInverseEntry d known) entries

-- a handle that is kept is that of the identity
abbrev pub IsIdentity : ℕ → (ℕ → Option (List ℕ)) → Option Handle → Type 0
IsIdentity d known kept = (h : Handle) → kept ≡ Some h → ∥ StandsForTerm d known h One ∥₁

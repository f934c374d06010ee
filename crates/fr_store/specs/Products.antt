-- Products of handles that are remembered: each stands for a product, and any of them may be forgotten. This project's own,
-- on the pattern of the cache of computed results in packages for binary decision diagrams (Brace, Rudell and Bryant,
-- Efficient implementation of a BDD package).
use Rattle.std.specs.Prelude.{ℕ, suc, ◌≡◌, List, Option}
use Rattle.std.specs.List.{All}
use Rattle.fr_store.specs.declared.products.Entry.{Entry}
use Rattle.fr_store.specs.Store.{IsProductOf}

-- where the entry is in use, it tells the product of two handles
abbrev pub IsEntry : ℕ → (ℕ → Option (List ℕ)) → Entry → Type 0
IsEntry d known e = (n : ℕ) → e.product ≡ suc n → ∥ IsProductOf d known (record { node = e.left }) (record { node = e.right }) (record { node = n }) ∥₁

-- each entry that is in use tells the product of two handles
abbrev pub AreProducts : ℕ → (ℕ → Option (List ℕ)) → List Entry → Type 0
AreProducts d known entries = All (IsEntry d known) entries

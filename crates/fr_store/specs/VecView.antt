-- What contracts see of a store on blocks of rows. This project's own.
use Rattle.std.specs.Prelude.{ℕ, ◌≡◌, ◌≢◌, List, Option, Some, length}
use Rattle.fr_store.specs.Store.{View}
use Rattle.fr_store.specs.Coded.{codes_of}
use Rattle.fr_store.specs.Index.{known_in}
use Rattle.fr_store.specs.declared.vec_store.VecStore.{VecStore}

-- what is known of the number of a handle
abbrev pub known_of : VecStore → ℕ → Option (List ℕ)
known_of s = known_in (codes_of s.blocks) s.index.handles.items

-- a look-up does not meet a code exactly where no handle has it, and each row was claimed here; a step on the claimed
-- number gives how many rows there were
abbrev pub vec_view : View VecStore
vec_view = record {
  alphabet = λ s. s.blocks.alphabet;
  capacity = λ s. s.capacity;
  known = known_of;
  own = λ s. length s.blocks.rows.items;
  seen = λ s. length s.blocks.rows.items;
  kin = λ s t. (t.blocks.alphabet ≡ s.blocks.alphabet) × (t.capacity ≡ s.capacity);
  missed = λ code s t. (n : ℕ) → known_of s n ≢ Some code;
  gave = λ n s t. n ≡ length s.blocks.rows.items;
}

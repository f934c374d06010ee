-- Tables of bindings by name.
use Rattle.std.specs.Prelude.{ℕ, ◌-◌, List, [], ◌∷◌, length, take, Option, Some, None, if◌then◌else◌}
use Rattle.std.specs.Str.{bytes_eq}
use Rattle.std.specs.declared.hash.FoldHasher.{FoldHasher}
use Rattle.std.specs.declared.hash.BuildHasherDefault.{BuildHasherDefault}
use Rattle.std.specs.HashMap.{get_by, HashMap}
use Rattle.std.specs.Global.{Vec}
use Rattle.fr_store.specs.declared.handle.Handle.{Handle}
use Rattle.fr_expr.specs.declared.env.Binding.{Binding}
use Rattle.fr_expr.specs.declared.env.Env.{Env}

abbrev pub Table : Type 0
Table = HashMap (Vec ℕ) (Vec Binding) (BuildHasherDefault FoldHasher)

-- the items of a vector, and none where there is no vector
abbrev pub items_of : Option (Vec Binding) → List Binding
items_of None = []
items_of (Some bindings) = bindings.items

-- what the table has at a name
abbrev pub bindings_at : Table → List ℕ → List Binding
bindings_at table name = items_of (get_by (λ k. bytes_eq name k.items) table)

-- the bindings of each name
abbrev pub names_in : Env → List ℕ → List Binding
names_in e name = bindings_at e.bindings name

-- the bindings of a name at a line where each of these names, in order, is bound to the handle at its place
abbrev pub bindings_of : ℕ → List (List ℕ) → List Handle → List ℕ → List Binding
bindings_of line [] handles name = []
bindings_of line (n ∷ ns) [] name = []
bindings_of line (n ∷ ns) (h ∷ hs) name = if bytes_eq n name then record { line = line; handle = h } ∷ bindings_of line ns hs name else bindings_of line ns hs name

-- all but the last
abbrev pub without_last : List Binding → List Binding
without_last bindings = take (length bindings - 1) bindings

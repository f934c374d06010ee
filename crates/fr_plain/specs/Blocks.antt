-- A block of recursions as a system of wreath recursions. A section name is a name of the same block, wherever it
-- stands there.
use Rattle.std.specs.Prelude.{ℕ, suc, if◌then◌else◌, List, [], ◌∷◌, length, map, Option, Some, None, option_map, unwrap_or}
use Rattle.std.specs.Str.{bytes_eq}
use Rattle.fr_model.specs.Systems.{Factor, Wreath, System}
use Rattle.fr_syntax.specs.declared.statement.Recursion.{Recursion}
use Rattle.fr_syntax.specs.declared.statement.SecName.{SecName}

-- the names that a block binds, in order of its lines
abbrev pub names_of : List Recursion → List (List ℕ)
names_of recursions = map (λ r. r.name) recursions

-- the first place of a name among names, from 0
abbrev pub place_of : List (List ℕ) → List ℕ → Option ℕ
place_of [] name = None
place_of (n ∷ ns) name = if bytes_eq n name then Some 0 else option_map suc (place_of ns name)

-- a name of a section, or its inverse, as a factor; a name that stands nowhere is no name of the system
abbrev pub factor_of : List (List ℕ) → SecName → Factor
factor_of names s = record { name = unwrap_or (place_of names s.name) (length names); inverse = s.inverse }

-- a line of a block as a wreath recursion
abbrev pub wreath_of_recursion : List (List ℕ) → Recursion → Wreath
wreath_of_recursion names r = record { perm = r.perm; sections = map (λ word. map (factor_of names) word) r.sections }

-- the block as a system, in which a name is the place of its line
abbrev pub block_system : List Recursion → System
block_system recursions = map (wreath_of_recursion (names_of recursions)) recursions

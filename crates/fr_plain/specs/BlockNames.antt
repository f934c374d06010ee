-- What may be wrong with the names of a block: one that stands twice, or a section name that is none of them.
use Rattle.std.specs.Prelude.{ℕ, Bool, not, if◌then◌else◌, List, [], ◌∷◌, ◌++◌, Option, Some, None}
use Rattle.std.specs.List.{list_any}
use Rattle.std.specs.Str.{bytes_eq}
use Rattle.fr_syntax.specs.declared.statement.Recursion.{Recursion}
use Rattle.fr_syntax.specs.declared.statement.SecName.{SecName}
use Rattle.fr_script.specs.declared.fault.LineFault.TheVariants as f
use Rattle.fr_script.specs.declared.fault.Fault.{Fault}
use Rattle.fr_plain.specs.Blocks.{names_of}

-- the first line whose name stands among those above it in the block, or among the given ones
abbrev pub first_repeat : List (List ℕ) → List Recursion → Option ℕ
first_repeat above [] = None
first_repeat above (r ∷ rs) = if list_any (λ n. bytes_eq n r.name) above then Some r.line else first_repeat (above ++ r.name ∷ []) rs

-- whether a section has a name that is none of these
abbrev pub has_unknown : List (List ℕ) → List SecName → Bool
has_unknown names word = list_any (λ s. not (list_any (λ n. bytes_eq n s.name) names)) word

-- the first line with a section name that is none of these
abbrev pub first_unknown : List (List ℕ) → List Recursion → Option ℕ
first_unknown names [] = None
first_unknown names (r ∷ rs) = if list_any (has_unknown names) r.sections then Some r.line else first_unknown names rs

-- the first unknown name, where it stands at a line
abbrev pub unknown_fault : Option ℕ → Option Fault
unknown_fault (Some line) = Some (record { line = line; kind = f.UnknownName })
unknown_fault None = None

-- the first repeated name, where it stands at a line, and then the first unknown one
abbrev pub repeat_fault : List Recursion → Option ℕ → Option Fault
repeat_fault recursions (Some line) = Some (record { line = line; kind = f.NameTaken })
repeat_fault recursions None = unknown_fault (first_unknown (names_of recursions) recursions)

-- the fault of the names of a block: the first repeated name in order of lines, then the first unknown one
abbrev pub names_fault : List Recursion → Option Fault
names_fault recursions = repeat_fault recursions (first_repeat [] recursions)

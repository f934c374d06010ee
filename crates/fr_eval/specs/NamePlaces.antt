-- The places of the names of a block as a table has them, and what is read from a block by them.
use Rattle.std.specs.Prelude.{ℕ, ◌≡◌, Bool, not, is_some, if◌then◌else◌, List, [], ◌∷◌, map, Option, Some, None, IsSome, unwrap_or}
use Rattle.std.specs.List.{All, list_any}
use Rattle.std.specs.Str.{bytes_eq}
use Rattle.std.specs.declared.hash.FoldHasher.{FoldHasher}
use Rattle.std.specs.declared.hash.BuildHasherDefault.{BuildHasherDefault}
use Rattle.std.specs.HashMap.{get_by, HashMap}
use Rattle.fr_model.specs.Systems.{Factor, Wreath}
use Rattle.fr_syntax.specs.declared.statement.Recursion.{Recursion}
use Rattle.fr_syntax.specs.declared.statement.SecName.{SecName}
use Rattle.fr_plain.specs.Blocks.{names_of, place_of}
use Rattle.fr_plain.specs.BlockNames.{first_repeat}
use denote.Ref.{Bor}

abbrev pub Table : Type 0
Table = HashMap (Bor (List ℕ)) ℕ (BuildHasherDefault FoldHasher)

-- the place that the table has for a name
abbrev pub place_at : Table → List ℕ → Option ℕ
place_at table name = get_by (λ k. bytes_eq name k.now) table

-- the table has the place of each of these names, and no other
abbrev pub HasPlaces : List (List ℕ) → Table → Type 0
HasPlaces names table = (name : List ℕ) → place_at table name ≡ place_of names name

-- no name of the block stands twice, and the table has the place of each
pub record ArePlaces (recursions : List Recursion) (table : Table) : Type 0 where
  pub distinct : first_repeat [] recursions ≡ None
  pub known : HasPlaces (names_of recursions) table

-- whether a section has a name without a place
abbrev pub has_placeless : Table → List SecName → Bool
has_placeless table word = list_any (λ s. not (is_some (place_at table s.name))) word

-- the first line with such a section
abbrev pub first_placeless : Table → List Recursion → Option ℕ
first_placeless table [] = None
first_placeless table (r ∷ rs) = if list_any (has_placeless table) r.sections then Some r.line else first_placeless table rs

-- each name of the section has a place
abbrev pub ArePlaced : Table → List SecName → Type 0
ArePlaced table word = All (λ s. IsSome (place_at table s.name)) word

-- a name of a section that has a place, or its inverse, as a factor
abbrev pub placed : Table → SecName → Factor
placed table s = record { name = unwrap_or (place_at table s.name) 0; inverse = s.inverse }

-- a line of a block whose section names have places
abbrev pub placed_recursion : Table → Recursion → Wreath
placed_recursion table r = record { perm = r.perm; sections = map (λ word. map (placed table) word) r.sections }

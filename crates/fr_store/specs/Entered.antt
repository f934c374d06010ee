-- What a store on blocks of rows is after the rows of an element were put into it. This project's own.
use Rattle.std.specs.Prelude.{ℕ, ◌≡◌, ◌+◌, List, [], ◌∷◌, length}
use Rattle.fr_model.specs.Terms.{Term, IsTerm, IsAlike}
use Rattle.fr_machine.specs.declared.row.Row.{Row}
use Rattle.fr_machine.specs.Rows.{row_term}
use Rattle.fr_store.specs.declared.blocks.Place.{Place}
use Rattle.fr_store.specs.Store.{StandsForTerm, GrowsBy}
use Rattle.fr_store.specs.Blocks.{code_at}
use Rattle.fr_store.specs.Index.{IsIndex, IsTable, known_in}

-- the element of the rows has this handle, and its sections and nothing else became known with it
pub record IsEntered (d : ℕ) (rows : List Row) (places : List Place) (handles : List ℕ) (entered : List Row) (rows' : List Row) (places' : List Place) (handles' links' cells' : List ℕ) (node : ℕ) : Type 0 where
  pub count : length rows' ≡ length rows + length entered
  pub index : IsIndex (code_at d rows' places') (length rows') handles' links'
  pub table : IsTable (code_at d rows' places') handles' cells'
  pub whole : length links' ≡ length rows'
  pub handle : (t : Term) → IsTerm d t → IsAlike (row_term entered 0) t → StandsForTerm d (known_in (code_at d rows' places') handles') (record { node = node }) t
  pub grows : (t : Term) → IsTerm d t → IsAlike (row_term entered 0) t → GrowsBy d (known_in (code_at d rows places) handles) (known_in (code_at d rows' places') handles') (t ∷ [])

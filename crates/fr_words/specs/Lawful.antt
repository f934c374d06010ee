-- What a step on the shared table tells. This project's own.
use Rattle.std.specs.Prelude.{◌≡◌, ◌≢◌, ℕ, slice_index}
use mathlib.Core.Option.{some}
use lib.ListN.{get_elem?}
use Rattle.atomic_table.specs.Table.{State, Me, Step}
use Rattle.fr_words.specs.Rule.{RuledBy}
use Rattle.fr_words.specs.Notes.{ticked, met_product, saw, claimed, wrote, learned, met, met_cell, entered}
use Rattle.fr_words.specs.declared.notes.Note.{Note}

-- there is a table under the rule in which a hand has this note and the word i is n
pub record Lawful (v : Note) (i n : ℕ) : Type 0 where
  pub state : State ℕ Note
  pub ruled : RuledBy v.plan state
  pub seat : ℕ
  pub at : get_elem? state.views seat ≡ some v
  pub is : slice_index state.words i ≡ n

-- right after a step of the hand, the word of that step has the value that it left
abbrev pub IsLawful : Note → Type 0
IsLawful v = Lawful v v.last_word v.last_value

-- a hand with its seat, as the table has it
abbrev Seated : Type 0
Seated = Me ℕ Note

-- the note before with what was found, which the note after names, and the note after with what the word is then
abbrev pub Tells : Step ℕ → Seated → ℕ → Seated → Type 0
Tells st m n m' = Lawful m.0 st.word n × (m'.0.found ≡ n) × IsLawful m'.0

-- what no exchange changes
abbrev pub Same : Seated → Seated → Type 0
Same m m' = (m'.1 ≡ m.1) × (m'.0.line ≡ m.0.line) × (m'.0.plan ≡ m.0.plan)

abbrev pub looks : Step ℕ → Seated → ℕ → Seated → Type 0
looks st m n m' = (m' ≡ (saw m.0 n, m.1)) × Tells st m n m'

abbrev pub claims : Step ℕ → Seated → ℕ → Seated → Type 0
claims st m n m' = Same m m' × (n ≡ st.first → m' ≡ (claimed m.0 n st.second, m.1)) × (n ≢ st.first → m' ≡ (saw m.0 n, m.1)) × Tells st m n m'

abbrev pub fills : Step ℕ → Seated → ℕ → Seated → Type 0
fills st m n m' = (m' ≡ (wrote m.0 st.word n, m.1)) × Lawful m.0 st.word 0 × IsLawful m'.0

abbrev pub meets : Step ℕ → Seated → ℕ → Seated → Type 0
meets st m n m' = (m' ≡ (met m.0 st.word n, m.1)) × Tells st m n m'

abbrev pub meets_cell : Step ℕ → Seated → ℕ → Seated → Type 0
meets_cell st m n m' = (m' ≡ (met_cell m.0 st.word n, m.1)) × Tells st m n m'

abbrev pub enters_cell : Step ℕ → Seated → ℕ → Seated → Type 0
enters_cell st m n m' = Same m m' × (n ≡ 0 → m' ≡ (entered m.0 st.word st.second, m.1)) × (n ≢ 0 → m' ≡ (learned m.0 st.word n, m.1)) × Tells st m n m'

abbrev pub sets_link : Step ℕ → Seated → ℕ → Seated → Type 0
sets_link st m n m' = Same m m' × (n ≡ 0 → m' ≡ (wrote m.0 st.word st.second, m.1)) × (n ≢ 0 → m' ≡ (learned m.0 st.word n, m.1)) × Tells st m n m'

abbrev pub meets_product : Step ℕ → Seated → ℕ → Seated → Type 0
meets_product st m n m' = (m' ≡ (met_product m.0 st.word n, m.1)) × Tells st m n m'

abbrev pub swaps : Step ℕ → Seated → ℕ → Seated → Type 0
swaps st m n m' = (m' ≡ (ticked m.0 st.word n st.first, m.1)) × Tells st m n m'

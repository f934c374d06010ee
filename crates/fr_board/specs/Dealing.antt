-- The rule of a ticket board, whose one word is the number of pieces drawn, and what each step on the word tells. This project's own.
use Rattle.std.specs.Prelude.{◌≡◌, ◌≢◌, ℕ, suc, ◌+◌, ◌*◌, ◌<◌, ◌≤◌, List, [], ◌∷◌, ◌++◌, length, nat_eq, max, slice_index}
use mathlib.Core.Option.{some}
use lib.ListN.{get_elem?}
use Rattle.atomic_table.specs.Table.{State, Me, Step}
use Rattle.fr_line.specs.Lines.{only_if, below, total, Woven, Whole, IsLive, first_line, cut, sprout}
use Rattle.fr_board.specs.declared.notes.Drawn.{Drawn}

-- n pieces of `grain` jobs are enough for the jobs, and each of them is needed
abbrev pub IsPieceCount : ℕ → ℕ → ℕ → Type 0
IsPieceCount jobs grain n = (jobs ≤ n * grain) × ((m : ℕ) → m < n → m * grain < jobs)

-- how often p stands in the list
abbrev pub times : ℕ → List ℕ → ℕ
times p [] = 0
times p (x ∷ xs) = only_if (nat_eq p x) 1 + times p xs

-- what the first draw knows
abbrev pub newcomer : ℕ → Drawn
newcomer limit = record { line = first_line; pieces = []; seen = 0; steps = 0; last = 0; limit = limit }

-- what each draw knows, where the word is n and there are `limit` pieces
pub record Knows (limit n : ℕ) (v : Drawn) : Type 0 where
  pub limited : IsLive v.line → v.limit ≡ limit
  pub seen : v.seen ≤ n
  pub last : v.last ≤ v.seen
  pub idle : v.steps ≡ 0 → v.last ≡ 0
  pub spent : v.line ≡ [] → v.pieces ≡ []

-- the rule: the word is at most the number of pieces, the pieces below it were drawn, each once, and no others
pub record Dealt (limit : ℕ) (s : State ℕ Drawn) : Type 0 where
  pub wide : length s.words ≡ 1
  pub most : slice_index s.words 0 ≤ limit
  pub once : (p : ℕ) → total (λ v. times p v.pieces) s.views ≡ below p (slice_index s.words 0)
  pub each : (i : ℕ) (v : Drawn) → get_elem? s.views i ≡ some v → Knows limit (slice_index s.words 0) v
  pub woven : Woven (λ v. v.line) s.views

-- a step that met n and left it
abbrev pub looked : Drawn → ℕ → Drawn
looked v n = record { line = v.line; pieces = v.pieces; seen = n; steps = suc v.steps; last = n; limit = v.limit }

-- a step that drew the piece n
abbrev pub took : Drawn → ℕ → Drawn
took v n = record { line = v.line; pieces = v.pieces ++ n ∷ []; seen = suc n; steps = suc v.steps; last = suc n; limit = v.limit }

-- right after a step: each piece was drawn at most once, and is below the word; a whole draw has drawn all of these
pub record IsSettled (v : Drawn) : Type 0 where
  pub met : v.seen ≡ v.last
  pub most : v.last ≤ v.limit
  pub once : (p : ℕ) → times p v.pieces ≤ below p v.last
  pub whole : Whole v.line → (p : ℕ) → times p v.pieces ≡ below p v.last

-- a draw with its seat, as the table has it
abbrev Seated : Type 0
Seated = Me ℕ Drawn

-- a load tells the word, which never falls
abbrev pub looks : Step ℕ → Seated → ℕ → Seated → Type 0
looks st m n m' = (m' ≡ (looked m.0 n, m.1)) × (m.0.seen ≤ n) × IsSettled m'.0

-- an exchange draws the piece where it meets its number, and is a load elsewhere
abbrev pub takes_piece : Step ℕ → Seated → ℕ → Seated → Type 0
takes_piece st m n m' = (n ≡ st.first → m' ≡ (took m.0 n, m.1)) × (n ≢ st.first → m' ≡ (looked m.0 n, m.1)) × (m.0.seen ≤ n) × IsSettled m'.0

-- what a split leaves to the draw that is split
abbrev pub parted : Drawn → Drawn
parted v = record { line = cut v.line; pieces = v.pieces; seen = v.seen; steps = v.steps; last = v.last; limit = v.limit }

-- what a split gives to the new draw
abbrev pub sprouted : Drawn → Drawn
sprouted v = record { line = sprout v.line; pieces = []; seen = v.seen; steps = 0; last = 0; limit = v.limit }

-- what a join gives to the draw that takes the other back
abbrev pub united : Drawn → Drawn → Drawn
united v u = record { line = v.line ++ u.line; pieces = v.pieces ++ u.pieces; seen = max v.seen u.seen; steps = v.steps; last = v.last; limit = v.limit }

-- what a join leaves of the other
abbrev pub spent : Drawn
spent = record { line = []; pieces = []; seen = 0; steps = 0; last = 0; limit = 0 }

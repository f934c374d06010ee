-- How each step on the shared table changes the note of the hand that makes it. This project's own.
use Rattle.std.specs.Prelude.{ℕ, suc, ◌-◌, [], ◌∷◌, ◌++◌, nat_eq, max, Some, None, if◌then◌else◌}
use Rattle.fr_line.specs.Lines.{first_line, cut, sprout}
use Rattle.fr_layout.specs.declared.plan.Plan.{Plan}
use Rattle.fr_words.specs.declared.notes.Note.{Note}
use Rattle.fr_words.specs.declared.notes.Fact.{Fact}
use Rattle.fr_words.specs.declared.notes.Claim.{Claim}

-- the note of the first hand
abbrev pub newcomer : Plan → Note
newcomer p = record { plan = p; seen = 0; facts = []; own = []; made = []; products = []; line = first_line; steps = 0; last_word = 0; found = 0; last_value = 0; gap = None }

-- the word i with the value x
abbrev pub fact : ℕ → ℕ → Fact
fact i x = record { word = i; value = x }

-- the rows from start to below next, claimed by a hand with this note
abbrev pub claim_of : Note → ℕ → ℕ → Claim
claim_of v start next = record { block = record { start = start; size = next - start }; gap = v.gap }

-- a step that met n in the word i, and left x there
abbrev pub ticked : Note → ℕ → ℕ → ℕ → Note
ticked v i n x = record v { steps = suc v.steps; last_word = i; found = n; last_value = x }

-- a load of the claim word, or a claim that lost
abbrev pub saw : Note → ℕ → Note
saw v n = ticked (record v { seen = n }) 0 n n

-- a claim that won
abbrev pub claimed : Note → ℕ → ℕ → Note
claimed v start next = ticked (record v { seen = next; own = v.own ++ claim_of v start next ∷ [] }) 0 start next

-- x was written to the word i, which was 0
abbrev pub wrote : Note → ℕ → ℕ → Note
wrote v i x = ticked (record v { facts = v.facts ++ fact i x ∷ [] }) i 0 x

-- x, which is not 0, was met in the word i
abbrev pub learned : Note → ℕ → ℕ → Note
learned v i x = ticked (record v { facts = v.facts ++ fact i x ∷ [] }) i x x

-- a load of a row field or of a link: what is not 0 is noted
abbrev pub met : Note → ℕ → ℕ → Note
met v i x = if nat_eq x 0 then ticked v i x x else learned v i x

-- a load of a cell that gave 0
abbrev pub missed_at : Note → ℕ → ℕ → Note
missed_at v i x = ticked (record v { gap = Some (record { word = i; step = suc v.steps }) }) i x x

-- a load of a cell
abbrev pub met_cell : Note → ℕ → ℕ → Note
met_cell v i x = if nat_eq x 0 then missed_at v i x else learned v i x

-- x was put into an empty cell
abbrev pub entered : Note → ℕ → ℕ → Note
entered v i x = ticked (record v { facts = v.facts ++ fact i x ∷ []; made = v.made ++ i ∷ [] }) i 0 x

-- a load of a cache word that has a product
abbrev pub read_product : Note → ℕ → ℕ → Note
read_product v i x = ticked (record v { products = v.products ++ x ∷ [] }) i x x

-- a load of a cache word
abbrev pub met_product : Note → ℕ → ℕ → Note
met_product v i x = if nat_eq x 0 then ticked v i x x else read_product v i x

-- what a split leaves to the hand that is split
abbrev pub parted : Note → Note
parted v = record v { line = cut v.line }

-- what a split gives to the new hand
abbrev pub sprouted : Note → Note
sprouted v = record { plan = v.plan; seen = v.seen; facts = v.facts; own = []; made = []; products = v.products; line = sprout v.line; steps = 0; last_word = 0; found = 0; last_value = 0; gap = None }

-- what a join gives to the hand that takes the other back
abbrev pub united : Note → Note → Note
united v u = record v { seen = max v.seen u.seen; facts = v.facts ++ u.facts; own = v.own ++ u.own; made = v.made ++ u.made; products = v.products ++ u.products; line = v.line ++ u.line }

-- what a join leaves of the other
abbrev pub spent : Note
spent = record { plan = record { letters = 0; capacity = 0; bits = 0; cells = 0 }; seen = 0; facts = []; own = []; made = []; products = []; line = []; steps = 0; last_word = 0; found = 0; last_value = 0; gap = None }

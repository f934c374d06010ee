-- What the clauses of a hand say. This project's own.
use Rattle.std.specs.Prelude.{◌≡◌}
use Rattle.fr_words.specs.declared.notes.Note.{Note}
use Rattle.fr_words.specs.declared.words.Words.{Words}
use Rattle.fr_words.specs.declared.hand.Hand.{Hand}

-- what the hand noted
abbrev pub note : Hand → Note
note h = h.seat.me.0

-- the hand was made with this table, or split from such a hand
abbrev pub IsOf : Words → Hand → Type 0
IsOf w h = (h.seat.table_id ≡ w.table.shared.table_id) × ((note h).plan ≡ w.plan)

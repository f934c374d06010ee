-- Rows and the rows behind them; sets of row numbers that grow by one.
use Rattle.std.proofs.Common.{ℕ, ◌≡◌, ◌<◌, ◌⊎◌, inl, inr, ◌||◌, ◌&&◌, Bool, true, false, List, [], ◌∷◌, ◌++◌, length, refl, sym, ◌∙◌, ap}
use Rattle.std.proofs.lemmas.Bool.{cases_order}
use Rattle.fr_model.specs.Words.{IsLetter}
use Rattle.fr_model.specs.Automata.{next_state, state_after, IsReached}
use Rattle.fr_model.specs.Terms.{IsAlike}
use Rattle.fr_model.proofs.AlikeLaws.{alike_sym}
use Rattle.fr_model.proofs.AutomatonLaws.{next_state-lt}
use Rattle.fr_model.proofs.TermLaws.{IsWord-append}
use Rattle.fr_machine.specs.declared.row.Row.{Row}
use Rattle.fr_machine.specs.Rows.{states_of, row_term, IsMachine}
use Rattle.fr_machine.specs.Minimal.{IsMinimal}
use Rattle.fr_machine.proofs.RowLaws.{length-states_of, IsAutomaton-states_of}
use Rattle.fr_growth.proofs.WalkLaws.{state_after-append}

-- ---- tests
pub or_cases : (a b : Bool) → (a || b) ≡ true → (a ≡ true) ⊎ (b ≡ true)
or_cases true b e = inl refl
or_cases false b e = inr e

pub or_left : (a b : Bool) → a ≡ true → (a || b) ≡ true
or_left true b e = refl
or_left false b e = cc

pub or_right : (a b : Bool) → b ≡ true → (a || b) ≡ true
or_right true b e = refl
or_right false b e = e

and_cases : (a b : Bool) → (a && b) ≡ true → (a ≡ true) × (b ≡ true)
and_cases true b e = (refl, e)
and_cases false b e = cc

and_both : (a b : Bool) → a ≡ true → b ≡ true → (a && b) ≡ true
and_both true b e f = f
and_both false b e f = cc

-- ---- next rows
pub auto_next : (d : ℕ) (rows : List Row) (m : IsMachine d rows) (s x : ℕ) → s < length rows → next_state (states_of rows) s x < length rows
auto_next d rows m s x l = let b = next_state-lt d (states_of rows) s x (IsAutomaton-states_of d rows m) (rw (length-states_of rows) l) in rw length-states_of at b

pub after_row : (d : ℕ) (rows : List Row) (m : IsMachine d rows) (s : ℕ) (w : List ℕ) → s < length rows → state_after (states_of rows) s w < length rows
after_row d rows m s [] l = l
after_row d rows m s (x ∷ w) l = after_row d rows m (next_state (states_of rows) s x) w (auto_next d rows m s x l)

pub IsReached-self : (d : ℕ) (rows : List Row) (s : ℕ) → IsReached d (states_of rows) s s
IsReached-self d rows s = record { along = []; valid = tt; there = refl }

pub IsReached-next : (d : ℕ) (rows : List Row) (s x t : ℕ) → IsLetter d x → t ≡ next_state (states_of rows) s x → IsReached d (states_of rows) s t
IsReached-next d rows s x t k e = record { along = x ∷ []; valid = (k, tt); there = sym e }

pub IsReached-trans : (d : ℕ) (rows : List Row) (s t u : ℕ) → IsReached d (states_of rows) s t → IsReached d (states_of rows) t u → IsReached d (states_of rows) s u
IsReached-trans d rows s t u v w = record {
  along = v.along ++ w.along;
  valid = IsWord-append d v.along w.along v.valid w.valid;
  there = state_after-append (states_of rows) s v.along w.along ∙ ap (λ z. state_after (states_of rows) z w.along) v.there ∙ w.there;
}

-- rows that act alike are one row
pub rows_apart : (d : ℕ) (rows : List Row) → IsMinimal d rows → (s t : ℕ) → s < length rows → t < length rows → IsAlike (row_term rows s) (row_term rows t) → s ≡ t
rows_apart d rows m s t a b h = elim (cases_order s t) [
  | inl e ↦ e
  | inr o ↦ elim o [ inl l ↦ absurd (m.unlike s t l b h) | inr l ↦ absurd (m.unlike t s l a (alike_sym h)) ]
]

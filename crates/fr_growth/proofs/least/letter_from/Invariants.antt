use Rattle.std.proofs.Common.{ℕ, ◌≡◌, ◌≤◌, false}
use Rattle.fr_model.specs.Words.{IsLetter}
use Rattle.fr_model.specs.Automata.{next_state}
use Rattle.fr_machine.specs.Rows.{states_of}
use Rattle.fr_growth.specs.Bits.{has_bit}
use Rattle.fr_growth.proofs.least.letter_from.Given as goal

abbrev pub invariant-loop-x : goal.invariant-loop-x
invariant-loop-x l = (y : ℕ) → l.least ≤ y → y ≤ l.x → IsLetter l.m.alphabet y → has_bit l.set (next_state (states_of l.m.rows) l.row y) ≡ false

-- The marked rows of a machine whose rows are all reached from row 0 are the limit sections of row 0.
use Rattle.std.proofs.Common.{ℕ, ◌<◌, Bool, List, length, subst, arith}
use Rattle.fr_model.specs.Automata.{IsAutomaton, IsLimitState, IsLimitStateFrom}
use Rattle.fr_model.proofs.AutomatonLaws.{state_after-lt}
use Rattle.fr_model.proofs.LimitStateLaws.{IsLimitState-from, limits_are_states}
use Rattle.fr_machine.specs.declared.row.Row.{Row}
use Rattle.fr_machine.specs.Rows.{states_of, IsMachine}
use Rattle.fr_machine.specs.Minimal.{AreReached}
use Rattle.fr_machine.proofs.RowLaws.{IsAutomaton-states_of, length-states_of}
use Rattle.fr_product.specs.Limits.{AreLimitRows, AreLimitSections}

module _ (d : ℕ) (rows : List Row) (marks : List Bool) (machine : IsMachine d rows) (m : AreLimitRows d rows marks) (all : AreReached d rows) where
  a : IsAutomaton d (states_of rows)
  a = IsAutomaton-states_of d rows machine

  limit_below : (r : ℕ) → IsLimitState d (states_of rows) r → r < length rows
  limit_below r h = omega (arith, subst (λ z. z < length (states_of rows)) h.reached.there (state_after-lt d (states_of rows) h.on h.reached.along a h.state), length-states_of rows)

  -- each limit state is reached from row 0
  limit_from_first : (r : ℕ) → IsLimitState d (states_of rows) r → IsLimitStateFrom d (states_of rows) 0 r
  limit_from_first r h =
      let w = all h.on (omega (arith, h.state, length-states_of rows)) in
      record { on = h.on; way = record { along = w.0; valid = w.1; there = w.2 }; round = h.round; round_valid = h.round_valid; some = h.some; back = h.back; reached = h.reached }

  pub AreLimitSections-marked : AreLimitSections d rows marks
  AreLimitSections-marked h =
      let some : 0 < length (states_of rows) = omega (arith, length-states_of rows, machine.least) in
      let law = limits_are_states d (states_of rows) 0 h a some in (
        λ k.
            let r = law.0 k in
            let limit = IsLimitState-from d (states_of rows) 0 r.0 a some r.1 in
            let below = limit_below r.0 limit in
            (r.0, below, (m.limits r.0 below).1 limit, r.2),
        λ k. law.1 (k.0, limit_from_first k.0 ((m.limits k.0 k.1).0 k.2), k.3),
      )

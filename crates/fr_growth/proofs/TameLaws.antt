-- The classes of a machine in which no moving row lies on two cycles.
use Rattle.std.proofs.Common.{ℕ, suc, ◌+◌, ◌≡◌, ◌<◌, ◌≤◌, inl, inr, List, [], length, get_or, subst, arith}
use Rattle.fr_growth.proofs.WalkLaws.{live_words}
use Rattle.fr_growth.proofs.CountLaws.{list_live}
use Rattle.fr_model.specs.Terms.{Section}
use Rattle.fr_model.specs.Automata.{state_after}
use Rattle.fr_model.specs.Activity.{IsFinitary, Link}
use Rattle.fr_model.proofs.AlikeLaws.{alike_refl}
use Rattle.fr_machine.specs.declared.row.Row.{Row}
use Rattle.fr_machine.specs.Rows.{states_of, row_term}
use Rattle.fr_machine.proofs.RowLaws.{length-states_of}
use Rattle.fr_machine.specs.Minimal.{IsMinimal}
use Rattle.fr_growth.specs.Walks.{unmarked, IsStateChain}
use Rattle.fr_growth.specs.Components.{AreComponents}
use Rattle.fr_growth.specs.Levels.{AreMoving, AreReturns, AreLevels}
use Rattle.fr_growth.specs.Growth.{HasPolynomialNumbers, HasFinitaryNumbers}
use Rattle.fr_growth.specs.Classes.{IsPolynomialBy}
use Rattle.fr_growth.proofs.LayerLaws.{IsLayered, live_words-end, dead_or_live}
use Rattle.fr_growth.proofs.ChainLaws.{IsReduced, IsAt, at_section, dead_one, live_moves, polynomial_by, polynomial_numbers, finitary_numbers}
use Rattle.fr_growth.proofs.LayerBridge.{level_at, numbers_rank, heights_rank, layered_rows, live_words-below}
use Rattle.fr_growth.proofs.ComponentLaws.{reduced_rows}
use Rattle.fr_growth.proofs.WayLaws.{counted_word, first_word}

module _ (d : ℕ) (rows : List Row) (m : IsMinimal d rows) (moving : List ℕ) (v : AreMoving rows moving) where
  abbrev pub red : IsReduced d (states_of rows) (unmarked moving)
  red = reduced_rows d rows moving m v

  pub at_zero : IsAt d (states_of rows) (unmarked moving) red (row_term rows 0) 0
  at_zero = record { below = rw length-states_of m.machine.least; alike = alike_refl (row_term rows 0) }

  pub finitary_at : (depth : ℕ) → live_words d (states_of rows) (unmarked moving) depth 0 ≡ 0 → ((k : ℕ) → k < depth → 1 ≤ live_words d (states_of rows) (unmarked moving) k 0) → IsFinitary d (row_term rows 0) depth
  finitary_at depth none first = record {
    inactive = λ w h e.
        let a = at_section d (states_of rows) (unmarked moving) red (row_term rows 0) 0 w at_zero h in
        elim (dead_or_live (unmarked moving (state_after (states_of rows) 0 w))) [
          | inl q ↦ dead_one d (states_of rows) (unmarked moving) red (Section (row_term rows 0) w) (state_after (states_of rows) 0 w) a q
          | inr q ↦ let c = counted_word d rows m moving 0 w h q in let c' = rw e at c in absurd (omega (arith, c', none))
        ];
    least = λ n l.
        let w = first_word d rows m moving n 0 (first n l) in
        let word = get_or (list_live d (states_of rows) (unmarked moving) n 0) 0 [] in (
          word,
          record {
            valid = w.valid;
            long = w.long;
            moved = live_moves d (states_of rows) (unmarked moving) red (Section (row_term rows 0) word) (state_after (states_of rows) 0 word) (at_section d (states_of rows) (unmarked moving) red (row_term rows 0) 0 word at_zero w.valid) w.live;
          },
        );
  }

  pub finitary_tells : (depth : ℕ) → IsFinitary d (row_term rows 0) depth → HasFinitaryNumbers d (row_term rows 0) depth
  finitary_tells depth f = finitary_numbers d (states_of rows) (unmarked moving) red (row_term rows 0) 0 depth at_zero f

  module _ (numbers : List ℕ) (a : AreComponents d rows numbers) (returns : List ℕ) (t : AreReturns d rows moving numbers returns) (few : (s : ℕ) → get_or returns s 0 ≤ 1) (levels heads : List ℕ) (l : AreLevels d rows numbers returns levels heads) where
    pub depth_at : (heights tops : List ℕ) → AreLevels d rows numbers moving heights tops → level_at numbers levels 0 ≡ 0 → IsFinitary d (row_term rows 0) (level_at numbers heights 0)
    depth_at heights tops h e = finitary_at (level_at numbers heights 0)
        (live_words-end d (states_of rows) (unmarked moving) (level_at numbers heights) (level_at numbers levels) (layered_rows d rows m moving v numbers a returns t few levels heads l (λ c. get_or heights c 0) (heights_rank d rows moving numbers heights tops a h))
        (level_at numbers heights 0) 0 (rw length-states_of m.machine.least) e (omega arith))
        (λ k less. live_words-below d rows m moving v numbers a returns t few levels heads l heights tops h k 0 m.machine.least e less)

    abbrev layered : IsLayered d (states_of rows) (unmarked moving) (λ q. get_or numbers q 0 + 1) (level_at numbers levels)
    layered = layered_rows d rows m moving v numbers a returns t few levels heads l (λ c. c + 1) (numbers_rank d rows moving numbers a)

    pub degree_at : (k : ℕ) (links : List Link) → level_at numbers levels 0 ≡ suc k → length links ≡ suc k → IsStateChain d (states_of rows) (unmarked moving) 0 links → IsPolynomialBy d (row_term rows 0) k links
    degree_at k links e n ch = polynomial_by d (states_of rows) (unmarked moving) red (λ q. get_or numbers q 0 + 1) (level_at numbers levels) layered (row_term rows 0) 0 k links at_zero e (omega (arith, n)) ch

    pub degree_tells : (k : ℕ) (links : List Link) → level_at numbers levels 0 ≡ suc k → length links ≡ suc k → IsStateChain d (states_of rows) (unmarked moving) 0 links → HasPolynomialNumbers d (length rows) (row_term rows 0) k links
    degree_tells k links e n ch =
        let P : ℕ → Type 0 = λ z. HasPolynomialNumbers d z (row_term rows 0) k links in
        subst P (length-states_of rows) (polynomial_numbers d (states_of rows) (unmarked moving) red (λ q. get_or numbers q 0 + 1) (level_at numbers levels) layered (row_term rows 0) 0 k links at_zero e (omega (arith, n)) ch)

use Rattle.std.proofs.Common.{arith, ◌∙◌, sym, ap, take, get_or}
use Rattle.fr_model.specs.Automata.{next_state}
use Rattle.fr_machine.specs.Rows.{states_of}
use Rattle.fr_growth.proofs.RowLaws.{after_row}
use Rattle.fr_growth.proofs.WordLaws.{word_at, branch_here, branch_keep, take_next}
use Rattle.fr_growth.proofs.least.last_branch.Goals as goal
use Rattle.fr_growth.proofs.least.last_branch.Goals.{in-Some, in_default}

pub overflow_add-first : goal.overflow_add-first
overflow_add-first c =
    let m = c.machine-machine.ensures.valid in
    omega (arith, word_at c.args.m.now.alphabet c.args.first.now c.loop-place.place c.requires.first.word.valid c.loop-place-test.true, m.machine.few, m.machine.letters)

pub letter_from-requires : goal.letter_from-requires
letter_from-requires c =
    let m = c.machine-machine.ensures.valid in
    record { row = rw c.loop-place.invariant.row (after_row c.args.m.now.alphabet c.args.m.now.rows m.machine c.args.from (take c.loop-place.place c.args.first.now) c.requires.row) }

pub next-row-requires-clause-row : goal.next-row-requires-clause-row
next-row-requires-clause-row c =
    let m = c.machine-machine.ensures.valid in
    rw (c.machine-machine.ensures.value, c.loop-place.invariant.row) (after_row c.args.m.now.alphabet c.args.m.now.rows m.machine c.args.from (take c.loop-place.place c.args.first.now) c.requires.row)

pub next-row-requires-clause-letter : goal.next-row-requires-clause-letter
next-row-requires-clause-letter c = rw c.machine-machine.ensures.value (word_at c.args.m.now.alphabet c.args.first.now c.loop-place.place c.requires.first.word.valid c.loop-place-test.true)

pub loop-place-preserved : goal.loop-place-preserved
loop-place-preserved c =
    let d = c.args.m.now.alphabet in
    let rows = c.args.m.now.rows in
    let i = c.loop-place.invariant in
    let k = c.loop-place.place in
    record {
      row = (rw c.machine-machine.ensures.value at c.next-row.ensures.value) ∙ ap (λ z. next_state (states_of rows) z (get_or c.args.first.now k 0)) i.row ∙ sym (take_next (states_of rows) c.args.from k c.args.first.now c.loop-place-test.true);
      best = elim c.match-letter_from.branch [
        | in-Some w ↦ rw w.branch'-is (branch_here d rows c.args.sets.now c.args.from c.args.first.now k c.loop-place.row i.row c.loop-place.branch w.in-Some.letter i.best w.in-Some.ensures)
        | in_default w ↦ rw w.branch'-is (branch_keep d rows c.args.sets.now c.args.from c.args.first.now k c.loop-place.row i.row c.loop-place.branch i.best w.in_default.ensures)
      ];
    }

use Rattle.std.proofs.Common.{[], ◌∷◌, ◌++◌, ◌≡◌, ◌∙◌, ap, take}
use Rattle.fr_model.specs.Automata.{next_state, state_after}
use Rattle.fr_machine.specs.Rows.{states_of}
use Rattle.fr_growth.proofs.RowLaws.{after_row}
use Rattle.fr_growth.proofs.WordLaws.{branch_some, next_some, next_exact, second_is}
use Rattle.fr_growth.proofs.least.second_word.Goals as goal

pub next-row-requires-clause-row : goal.next-row-requires-clause-row
next-row-requires-clause-row c =
    let m = c.machine-machine.ensures.valid in
    rw (c.machine-machine.ensures.value, c.in-Some.ensures.row) (after_row c.args.m.now.alphabet c.args.m.now.rows m.machine c.args.from (take c.in-Some.branch.place c.args.first.now) c.requires.row)

pub extend-requires-clause-exact : goal.extend-requires-clause-exact
extend-requires-clause-exact c =
    let m = c.machine-machine.ensures.valid in
    let to : c.next-row.result ≡ next_state (states_of c.args.m.now.rows) (state_after (states_of c.args.m.now.rows) c.args.from (take c.in-Some.branch.place c.args.first.now)) c.in-Some.branch.letter = (rw c.machine-machine.ensures.value at c.next-row.ensures.value) ∙ ap (λ z. next_state (states_of c.args.m.now.rows) z c.in-Some.branch.letter) c.in-Some.ensures.row in
    rw to (next_exact c.args.m.now.alphabet c.args.m.now.rows c.args.goals.now m c.args.sets.now c.requires.sound c.args.from c.requires.row c.args.first.now c.requires.long c.requires.exact c.requires.first c.in-Some.branch c.in-Some.ensures)

pub extend-requires-clause-some : goal.extend-requires-clause-some
extend-requires-clause-some c =
    let m = c.machine-machine.ensures.valid in
    let to : c.next-row.result ≡ next_state (states_of c.args.m.now.rows) (state_after (states_of c.args.m.now.rows) c.args.from (take c.in-Some.branch.place c.args.first.now)) c.in-Some.branch.letter = (rw c.machine-machine.ensures.value at c.next-row.ensures.value) ∙ ap (λ z. next_state (states_of c.args.m.now.rows) z c.in-Some.branch.letter) c.in-Some.ensures.row in
    rw to (next_some c.args.m.now.alphabet c.args.m.now.rows c.args.goals.now m c.args.sets.now c.requires.sound c.args.from c.requires.row c.args.first.now c.requires.long c.requires.exact c.requires.first c.in-Some.branch c.in-Some.ensures)

pub unreachable-requires : goal.unreachable-requires
unreachable-requires c =
    let m = c.machine-machine.ensures.valid in
    branch_some c.args.m.now.alphabet c.args.m.now.rows c.args.goals.now m c.args.sets.now c.requires.sound c.args.from c.requires.row c.args.first.now c.requires.long c.requires.exact c.requires.first c.requires.some c.in-None.ensures

pub returns : goal.returns
returns c =
    let m = c.machine-machine.ensures.valid in
    let to : c.next-row.result ≡ next_state (states_of c.args.m.now.rows) (state_after (states_of c.args.m.now.rows) c.args.from (take c.in-Some.branch.place c.args.first.now)) c.in-Some.branch.letter = (rw c.machine-machine.ensures.value at c.next-row.ensures.value) ∙ ap (λ z. next_state (states_of c.args.m.now.rows) z c.in-Some.branch.letter) c.in-Some.ensures.row in
    let q = c.in_ok-extend-in-Some.ensures in
    let p = take c.in-Some.branch.place c.args.first.now in
    let begun : c.extend_from_slice.new.self.items ≡ p = c.in_ok-extend_from_slice-in-Some.ensures.items ∙ ap (λ z. z ++ p) c.in_ok-word-in-Some.ensures.items in
    let is : c.extend.new.word.items ≡ (p ++ c.in-Some.branch.letter ∷ []) ++ q.0 = q.1 ∙ ap (λ z. z ++ q.0) c.in_ok-push-in-Some.ensures.items ∙ ap (λ z. (z ++ c.in-Some.branch.letter ∷ []) ++ q.0) begun in
    rw is (second_is c.args.m.now.alphabet c.args.m.now.rows c.args.goals.now m c.args.sets.now c.requires.sound c.args.from c.requires.row c.args.first.now c.requires.long c.requires.exact c.requires.first c.in-Some.branch c.in-Some.ensures q.0 (rw to at q.2))

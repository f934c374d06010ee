use Rattle.std.proofs.Common.{length, ◌≤◌, subst}
use Rattle.fr_machine.specs.Rows.{IsMachine}
use Rattle.fr_machine.specs.Machine.{MachineView}
use Rattle.fr_machine.proofs.RowLaws.{letter_shown, section_all}
use Rattle.fr_machine.proofs.machine.Machine.section.Goals as goal

pub next-at-requires-clause-letter : goal.next-at-requires-clause-letter
next-at-requires-clause-letter c = letter_shown _ _ _ _ c.letters-letter-items.ensures.value c.requires.word c.loop-letter-test.true

pub returns-clause-section : goal.returns-clause-section
returns-clause-section c =
    let P : MachineView → Type 0 = λ v. IsMachine v.alphabet v.rows in
    let m : IsMachine c.args.self.now.alphabet c.args.self.now.rows = subst P c.self.view_is c.self.invariant in
    let end : length c.args.w.now ≤ c.loop-letter.letter-index = rw c.letters-letter-items.ensures.value at c.loop-letter-test.false in
    section_all c.args.self.now.alphabet c.args.self.now.rows c.loop-letter.at c.args.s c.loop-letter.letter-index c.args.w.now m c.requires.row c.requires.word end c.loop-letter.invariant.rest

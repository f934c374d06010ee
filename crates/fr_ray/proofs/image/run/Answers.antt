use Rattle.std.proofs.Common.{arith, ap, refl, ◌++◌}
use Rattle.fr_model.specs.Terms.{act}
use Rattle.fr_model.proofs.PermutationLaws.{letter_at}
use Rattle.fr_machine.specs.Rows.{row_term, states_of}
use Rattle.fr_machine.proofs.RowLaws.{IsAutomaton-states_of, length-states_of, act_more, act_all, section_more}
use Rattle.fr_ray.proofs.image.run.Goals as goal

pub loop-x-init : goal.loop-x-init
loop-x-init c = record {
  in_range = c.requires.row;
  image = ap (λ l. l ++ act (row_term c.args.machine.now.rows c.args.row) c.args.word.now) c.reserve.ensures.items;
  room = omega (arith, c.in_ok-reserve.ensures.ok);
  behind = refl;
}

pub output-requires-clause-letter : goal.output-requires-clause-letter
output-requires-clause-letter c = letter_at _ c.args.word.now c.loop-x.x-index 0 c.requires.word c.loop-x-test.true

pub next-at-requires-clause-letter : goal.next-at-requires-clause-letter
next-at-requires-clause-letter c = letter_at _ c.args.word.now c.loop-x.x-index 0 c.requires.word c.loop-x-test.true

pub loop-x-preserved : goal.loop-x-preserved
loop-x-preserved c =
    let rows = c.args.machine.now.rows in
    let m = c.alphabet-alphabet.ensures.valid in
    let d = c.args.machine.now.alphabet in
    let i = c.loop-x.x-index in
    let word = c.args.word.now in
    record {
      in_range = c.next-at.ensures.row;
      image = rw (c.push_reserved.ensures.items, c.output.ensures.value) (act_more d (states_of rows) c.loop-x.at _ i _ c.loop-x.letters.items word _ (IsAutomaton-states_of d rows m) (rw (length-states_of rows) c.loop-x.invariant.in_range) (letter_at d word i 0 c.requires.word c.loop-x-test.true) c.loop-x-test.true refl c.next-at.ensures.value c.loop-x.invariant.image);
      room = omega (arith, c.loop-x.invariant.room, c.push_reserved.ensures.len, c.push_reserved.ensures.capacity);
      behind = section_more (states_of rows) c.loop-x.at c.next-at.result i _ word _ c.loop-x-test.true refl c.next-at.ensures.value c.loop-x.invariant.behind;
    }

pub returns-clause-image : goal.returns-clause-image
returns-clause-image c = act_all c.args.machine.now.rows c.loop-x.at c.loop-x.x-index c.args.word.now c.loop-x.letters.items _ c.loop-x-test.false c.loop-x.invariant.image

use Rattle.std.proofs.Common.{arith, ◌≡◌, ◌+◌, ◌-◌}
use Rattle.fr_growth.proofs.RowLaws.{after_row}
use Rattle.fr_growth.proofs.WordLaws.{IsWalked, walked_none, walked_some, walked_more, walked_all}
use Rattle.fr_growth.proofs.least.extend.Goals as goal

pub loop-left-init : goal.loop-left-init
loop-left-init c = record {
  walked = walked_none c.args.m.now.alphabet c.args.m.now.rows c.args.goals.now c.args.sets.now c.args.from c.args.long c.args.word.now.items c.requires.exact c.requires.some;
  most = omega arith;
}

pub letter_from-requires : goal.letter_from-requires
letter_from-requires c =
    let m = c.machine-machine.ensures.valid in
    let w = c.loop-left.invariant.walked in
    record { row = rw w.at (after_row c.args.m.now.alphabet c.args.m.now.rows m.machine c.args.from w.along c.requires.row) }

pub loop-left-preserved : goal.loop-left-preserved
loop-left-preserved c =
    let m = c.machine-machine.ensures.valid in
    let k = c.loop-left.left - 1 in
    let at : c.loop-left.left ≡ k + 1 = omega (arith, c.loop-left-test.true) in
    let w : IsWalked c.args.m.now.alphabet c.args.m.now.rows c.args.goals.now c.args.sets.now c.args.from c.args.long (k + 1) c.loop-left.row c.args.word.now.items c.loop-left.word.items = rw at at c.loop-left.invariant.walked in
    record {
      walked = rw (c.in_ok-push-in-Some.ensures.items, c.next-row.ensures.value, c.machine-machine.ensures.value) (walked_more c.args.m.now.alphabet c.args.m.now.rows c.args.goals.now m c.args.sets.now c.requires.sound c.args.from c.args.long k c.loop-left.row c.args.word.now.items c.loop-left.word.items c.requires.row (omega (arith, c.loop-left.invariant.most, c.requires.long, at)) w c.in-Some.letter c.in-Some.ensures);
      most = omega (arith, c.loop-left.invariant.most);
    }

pub returns : goal.returns
returns c = walked_all c.args.m.now.alphabet c.args.m.now.rows c.args.goals.now c.args.sets.now c.args.from c.args.long c.loop-left.left c.loop-left.row c.args.word.now.items c.loop-left.word.items c.loop-left-test.false c.loop-left.invariant.walked

pub next-row-requires-clause-row : goal.next-row-requires-clause-row
next-row-requires-clause-row c =
    let m = c.machine-machine.ensures.valid in
    let w = c.loop-left.invariant.walked in
    rw (c.machine-machine.ensures.value, w.at) (after_row c.args.m.now.alphabet c.args.m.now.rows m.machine c.args.from w.along c.requires.row)

pub unreachable-requires : goal.unreachable-requires
unreachable-requires c =
    let m = c.machine-machine.ensures.valid in
    let k = c.loop-left.left - 1 in
    let at : c.loop-left.left ≡ k + 1 = omega (arith, c.loop-left-test.true) in
    let w : IsWalked c.args.m.now.alphabet c.args.m.now.rows c.args.goals.now c.args.sets.now c.args.from c.args.long (k + 1) c.loop-left.row c.args.word.now.items c.loop-left.word.items = rw at at c.loop-left.invariant.walked in
    walked_some c.args.m.now.alphabet c.args.m.now.rows c.args.goals.now m c.args.sets.now c.requires.sound c.args.from c.args.long k c.loop-left.row c.args.word.now.items c.loop-left.word.items c.requires.row (omega (arith, c.loop-left.invariant.most, c.requires.long, at)) w c.in-None.ensures

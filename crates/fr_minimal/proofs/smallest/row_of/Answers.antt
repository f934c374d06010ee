use Rattle.std.proofs.Common.{arith, refl, sym, ap, ◌∙◌, suc, ◌≡◌, ◌+◌}
use Rattle.fr_machine.specs.Rows.{states_of}
use Rattle.fr_machine.specs.Walks.{IsNumbered, IsPassed}
use Rattle.fr_machine.proofs.WalkLaws.{IsRowPart-start, IsRowPart-more, IsRowMade-from, IsRowPassed-from}
use Rattle.fr_minimal.specs.Smallest.{chosen_step, chosen_output}
use Rattle.fr_minimal.proofs.ChoiceLaws.{perm_at}
use Rattle.fr_minimal.proofs.smallest.row_of.Goals as goal

pub loop-x-init : goal.loop-x-init
loop-x-init c = IsRowPart-start c.args.m.now.alphabet 1024 _ c.args.walk.now c.args.s _ c.requires.room refl

pub number-requires-clause-key : goal.number-requires-clause-key
number-requires-clause-key c = omega (arith, c.target_of-target.ensures.below, c.loop-x.invariant.bound, c.requires.bound)

pub loop-x-preserved : goal.loop-x-preserved
loop-x-preserved c =
    let step = chosen_step (states_of c.args.m.now.rows) c.args.of.now c.args.chosen.now in
    let one : c.loop-x.x + 1 ≡ suc c.loop-x.x = omega arith in
    let i : IsNumbered c.loop-x.walk c.number.new.self c.target_of-target.result 1024 c.in-Some.number = rw c.in-Some.is at c.in_ok-number.ensures in
    IsRowPart-more c.args.m.now.alphabet 1024 step c.args.walk.now c.loop-x.walk c.number.new.self c.args.s c.loop-x.next _ c.loop-x.x c.in-Some.number c.target_of-target.result c.loop-x.invariant (omega (arith, c.letters-d.ensures.value, c.alphabet.ensures.value)) c.alphabet.ensures.valid.letters (c.target_of-target.ensures.value ∙ ap (step c.args.s) one) i refl

pub returns-in-None-clause-passed : goal.returns-in-None-clause-passed
returns-in-None-clause-passed c same =
    let step = chosen_step (states_of c.args.m.now.rows) c.args.of.now c.args.chosen.now in
    let one : c.loop-x.x + 1 ≡ suc c.loop-x.x = omega arith in
    let p : IsPassed c.loop-x.walk c.number.new.self c.target_of-target.result 1024 = rw c.in-None.is at c.in_ok-number.ensures in
    IsRowPassed-from c.args.m.now.alphabet 1024 step c.args.walk.now c.loop-x.walk c.number.new.self c.args.s c.loop-x.next c.loop-x.x c.target_of-target.result c.loop-x.invariant (omega (arith, c.letters-d.ensures.value, c.alphabet.ensures.value)) (c.target_of-target.ensures.value ∙ ap (step c.args.s) one) (omega (arith, c.target_of-target.ensures.below, c.requires.bound)) c.keys-keys.ensures.valid p

pub returns-clause-ok : goal.returns-clause-ok
returns-clause-ok c =
    let step = chosen_step (states_of c.args.m.now.rows) c.args.of.now c.args.chosen.now in
    let output = chosen_output (states_of c.args.m.now.rows) in
    IsRowMade-from c.args.m.now.alphabet 1024 step output c.args.walk.now c.loop-x.walk c.args.s _ c.loop-x.x c.loop-x.invariant (omega (arith, c.letters-d.ensures.value, c.alphabet.ensures.value, c.loop-x-test.false)) (omega (arith, c.letters-d.ensures.value, c.alphabet.ensures.value, c.loop-x.auto.x-end)) (ap (λ r. r.perm) c.wreath.ensures.value ∙ sym (perm_at c.args.m.now.rows c.args.s c.requires.row))

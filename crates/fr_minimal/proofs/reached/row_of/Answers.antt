use Rattle.std.proofs.Common.{arith, refl, sym, ap, ◌∙◌, suc, ◌≡◌, ◌+◌}
use Rattle.fr_machine.specs.Rows.{states_of}
use Rattle.fr_machine.specs.Walks.{IsNumbered}
use Rattle.fr_machine.proofs.WalkLaws.{IsRowPart-start, IsRowPart-more, IsRowMade-from}
use Rattle.fr_model.specs.Automata.{next_state}
use Rattle.fr_minimal.specs.Smallest.{chosen_output}
use Rattle.fr_minimal.proofs.ChoiceLaws.{perm_at}
use Rattle.fr_minimal.proofs.reached.row_of.Goals as goal

pub loop-x-init : goal.loop-x-init
loop-x-init c = IsRowPart-start c.args.m.now.alphabet 65536 _ c.args.walk.now c.args.s _ c.requires.room refl

pub loop-x-preserved : goal.loop-x-preserved
loop-x-preserved c =
    let step = next_state (states_of c.args.m.now.rows) in
    let one : c.loop-x.x + 1 ≡ suc c.loop-x.x = omega arith in
    let i : IsNumbered c.loop-x.walk c.number_of.new.self c.next.result 65536 c.in_ok-next.field-0 = c.in_ok-next.ensures in
    IsRowPart-more c.args.m.now.alphabet 65536 step c.args.walk.now c.loop-x.walk c.number_of.new.self c.args.s c.loop-x.next _ c.loop-x.x c.in_ok-next.field-0 c.next.result c.loop-x.invariant (omega (arith, c.loop-x-test.true, c.letters-x-end.ensures.value, c.alphabet.ensures.value)) c.alphabet.ensures.valid.letters (c.next.ensures.value ∙ ap (step c.args.s) one) i refl

pub returns : goal.returns
returns c =
    let step = next_state (states_of c.args.m.now.rows) in
    let output = chosen_output (states_of c.args.m.now.rows) in
    IsRowMade-from c.args.m.now.alphabet 65536 step output c.args.walk.now c.loop-x.walk c.args.s _ c.loop-x.x c.loop-x.invariant (omega (arith, c.letters-x-end.ensures.value, c.alphabet.ensures.value, c.loop-x-test.false)) (omega (arith, c.letters-x-end.ensures.value, c.alphabet.ensures.value, c.loop-x.auto.x-end)) (ap (λ r. r.perm) c.wreath-row.ensures.value ∙ sym (perm_at c.args.m.now.rows c.args.s c.requires.row))

use Rattle.std.proofs.Common.{arith, ℕ, Vec, Global, ◌∙◌, get_or, ap, sym}
use Rattle.fr_alphabet.proofs.Readings.{IsWord-weaker}
use Rattle.fr_model.specs.Activity.{Link}
use Rattle.fr_growth.specs.Levels.{IsHead}
use Rattle.fr_growth.proofs.ChainBuilding.{IsReady, part_head, head_valid, link_chain, ready_turn, ready_plain, ready_more, leaving_falls}
use Rattle.fr_growth.proofs.ComponentLaws.{same_row}
use Rattle.fr_growth.proofs.chaining.find_chain.Goals as goal
use Rattle.fr_growth.proofs.chaining.find_chain.Goals.{else-loop-level-test, then-loop-level-test+in_ok-walk+then-returns-head-ne0+in_ok-back+in_ok-push+then-level-eq0, then-returns-head-ne0+in_ok-back+in_ok-push+else-level-eq0, else-returns-head-ne0}

pub of_letters-requires-clause-valid : goal.of_letters-requires-clause-valid
of_letters-requires-clause-valid c =
    let m = c.machine-machine.ensures.valid in
    let p = c.loop-level.invariant in
    let h : IsHead c.args.m.now.alphabet c.args.m.now.rows c.args.numbers.now c.args.returns.now c.args.levels.now.values.items (get_or c.args.numbers.now c.loop-level.at 0) c.head_of-head.result = rw c.head_of-head.ensures (part_head c.args.m.now.alphabet c.args.m.now.rows m c.args.moving.now c.requires.moving c.args.numbers.now c.requires.numbers c.args.returns.now c.requires.returns c.requires.few c.args.levels.now.values.items c.args.levels.now.heads.items c.requires.levels c.loop-level.links.items c.loop-level.word.items c.loop-level.at c.loop-level.level p c.loop-level-test.true) in
    IsWord-weaker c.args.m.now.alphabet 8 m.machine.letters c.walk.new.word.items (head_valid c.args.m.now.alphabet c.args.m.now.rows m c.args.moving.now c.requires.moving c.args.numbers.now c.requires.numbers c.args.returns.now c.requires.returns c.requires.few c.args.levels.now.values.items c.args.levels.now.heads.items c.requires.levels c.loop-level.links.items c.loop-level.word.items c.loop-level.at c.loop-level.level c.head_of-head.result c.walk.new.word.items p c.loop-level-test.true h c.in_ok-walk.ensures)

pub of_letters-requires-then-returns-head-ne0-clause-valid : goal.of_letters-requires-then-returns-head-ne0-clause-valid
of_letters-requires-then-returns-head-ne0-clause-valid c =
    let m = c.machine-machine.ensures.valid in
    IsWord-weaker c.args.m.now.alphabet 8 m.machine.letters c.in_ok-back.back.items c.in_ok-back.ensures.valid

pub leaving_letter-x-requires-clause-some : goal.leaving_letter-x-requires-clause-some
leaving_letter-x-requires-clause-some c =
    let m = c.machine-machine.ensures.valid in
    let p = c.loop-level.invariant in
    let h : IsHead c.args.m.now.alphabet c.args.m.now.rows c.args.numbers.now c.args.returns.now c.args.levels.now.values.items (get_or c.args.numbers.now c.loop-level.at 0) c.head_of-head.result = rw c.head_of-head.ensures (part_head c.args.m.now.alphabet c.args.m.now.rows m c.args.moving.now c.requires.moving c.args.numbers.now c.requires.numbers c.args.returns.now c.requires.returns c.requires.few c.args.levels.now.values.items c.args.levels.now.heads.items c.requires.levels c.loop-level.links.items c.loop-level.word.items c.loop-level.at c.loop-level.level p c.loop-level-test.true) in
    let ready : IsReady c.args.m.now.alphabet c.args.m.now.rows c.args.moving.now c.args.numbers.now c.args.levels.now.values.items c.if-returns-head-ne0.links.items c.if-returns-head-ne0.word.items c.head_of-head.result c.if-returns-head-ne0.level = elim c.if-returns-head-ne0.branch [
      | then-returns-head-ne0+in_ok-back+in_ok-push+else-level-eq0 w ↦
          let links = ap (λ (v : Vec Link Global). v.items) w.links-is ∙ w.in_ok-push.ensures.items in
          let word = ap (λ (v : Vec ℕ Global). v.items) w.word-is ∙ w.new-word-then-returns-head-ne0.ensures.items in
          rw (links, word, w.level-is, w.of_letters.ensures, w.of_letters-then-returns-head-ne0.ensures) (ready_turn c.args.m.now.alphabet c.args.m.now.rows m c.args.moving.now c.requires.moving c.args.numbers.now c.requires.numbers c.args.returns.now c.requires.returns c.requires.few c.args.levels.now.values.items c.args.levels.now.heads.items c.requires.levels c.loop-level.links.items c.loop-level.word.items c.loop-level.at c.loop-level.level c.head_of-head.result c.walk.new.word.items p c.loop-level-test.true h c.in_ok-walk.ensures w.in_ok-back.back.items w.if-returns-head-ne0.true (omega (arith, w.if-level-eq0.false, c.loop-level-test.true)) w.in_ok-back.ensures)
      | else-returns-head-ne0 w ↦
          let alone = same_row c.args.m.now.alphabet c.args.m.now.rows m c.args.numbers.now c.requires.numbers c.args.moving.now c.requires.moving c.args.returns.now c.requires.returns c.head_of-head.result c.loop-level.at h.below p.below h.inside w.if-returns-head-ne0.false in
          rw (ap (λ (v : Vec Link Global). v.items) w.links-is, ap (λ (v : Vec ℕ Global). v.items) w.word-is, w.level-is)
          (ready_plain c.args.m.now.alphabet c.args.m.now.rows m c.args.moving.now c.requires.moving c.args.numbers.now c.requires.numbers c.args.returns.now c.requires.returns c.requires.few c.args.levels.now.values.items c.args.levels.now.heads.items c.requires.levels c.loop-level.links.items c.loop-level.word.items c.loop-level.at c.loop-level.level c.head_of-head.result c.walk.new.word.items p c.loop-level-test.true h c.in_ok-walk.ensures (sym alone) w.if-returns-head-ne0.false)
    ] in
    rw c.deref.ensures.value ready.exit

pub loop-level-smaller : goal.loop-level-smaller
loop-level-smaller c =
    let m = c.machine-machine.ensures.valid in
    let p = c.loop-level.invariant in
    let h : IsHead c.args.m.now.alphabet c.args.m.now.rows c.args.numbers.now c.args.returns.now c.args.levels.now.values.items (get_or c.args.numbers.now c.loop-level.at 0) c.head_of-head.result = rw c.head_of-head.ensures (part_head c.args.m.now.alphabet c.args.m.now.rows m c.args.moving.now c.requires.moving c.args.numbers.now c.requires.numbers c.args.returns.now c.requires.returns c.requires.few c.args.levels.now.values.items c.args.levels.now.heads.items c.requires.levels c.loop-level.links.items c.loop-level.word.items c.loop-level.at c.loop-level.level p c.loop-level-test.true) in
    let ready : IsReady c.args.m.now.alphabet c.args.m.now.rows c.args.moving.now c.args.numbers.now c.args.levels.now.values.items c.if-returns-head-ne0.links.items c.if-returns-head-ne0.word.items c.head_of-head.result c.if-returns-head-ne0.level = elim c.if-returns-head-ne0.branch [
      | then-returns-head-ne0+in_ok-back+in_ok-push+else-level-eq0 w ↦
          let links = ap (λ (v : Vec Link Global). v.items) w.links-is ∙ w.in_ok-push.ensures.items in
          let word = ap (λ (v : Vec ℕ Global). v.items) w.word-is ∙ w.new-word-then-returns-head-ne0.ensures.items in
          rw (links, word, w.level-is, w.of_letters.ensures, w.of_letters-then-returns-head-ne0.ensures) (ready_turn c.args.m.now.alphabet c.args.m.now.rows m c.args.moving.now c.requires.moving c.args.numbers.now c.requires.numbers c.args.returns.now c.requires.returns c.requires.few c.args.levels.now.values.items c.args.levels.now.heads.items c.requires.levels c.loop-level.links.items c.loop-level.word.items c.loop-level.at c.loop-level.level c.head_of-head.result c.walk.new.word.items p c.loop-level-test.true h c.in_ok-walk.ensures w.in_ok-back.back.items w.if-returns-head-ne0.true (omega (arith, w.if-level-eq0.false, c.loop-level-test.true)) w.in_ok-back.ensures)
      | else-returns-head-ne0 w ↦
          let alone = same_row c.args.m.now.alphabet c.args.m.now.rows m c.args.numbers.now c.requires.numbers c.args.moving.now c.requires.moving c.args.returns.now c.requires.returns c.head_of-head.result c.loop-level.at h.below p.below h.inside w.if-returns-head-ne0.false in
          rw (ap (λ (v : Vec Link Global). v.items) w.links-is, ap (λ (v : Vec ℕ Global). v.items) w.word-is, w.level-is)
          (ready_plain c.args.m.now.alphabet c.args.m.now.rows m c.args.moving.now c.requires.moving c.args.numbers.now c.requires.numbers c.args.returns.now c.requires.returns c.requires.few c.args.levels.now.values.items c.args.levels.now.heads.items c.requires.levels c.loop-level.links.items c.loop-level.word.items c.loop-level.at c.loop-level.level c.head_of-head.result c.walk.new.word.items p c.loop-level-test.true h c.in_ok-walk.ensures (sym alone) w.if-returns-head-ne0.false)
    ] in
    let k = rw c.deref.ensures.value at c.leaving_letter-x.ensures in
    let next = rw c.machine-machine.ensures.value at c.next-at.ensures.value in
    omega (arith, leaving_falls c.args.m.now.alphabet c.args.m.now.rows m c.args.moving.now c.requires.moving c.args.numbers.now c.requires.numbers c.args.returns.now c.requires.returns c.requires.few c.args.levels.now.values.items c.args.levels.now.heads.items c.requires.levels c.head_of-head.result c.if-returns-head-ne0.level c.leaving_letter-x.result c.next-at.result ready.below k next, h.inside)

pub loop-level-preserved : goal.loop-level-preserved
loop-level-preserved c =
    let m = c.machine-machine.ensures.valid in
    let p = c.loop-level.invariant in
    let h : IsHead c.args.m.now.alphabet c.args.m.now.rows c.args.numbers.now c.args.returns.now c.args.levels.now.values.items (get_or c.args.numbers.now c.loop-level.at 0) c.head_of-head.result = rw c.head_of-head.ensures (part_head c.args.m.now.alphabet c.args.m.now.rows m c.args.moving.now c.requires.moving c.args.numbers.now c.requires.numbers c.args.returns.now c.requires.returns c.requires.few c.args.levels.now.values.items c.args.levels.now.heads.items c.requires.levels c.loop-level.links.items c.loop-level.word.items c.loop-level.at c.loop-level.level p c.loop-level-test.true) in
    let ready : IsReady c.args.m.now.alphabet c.args.m.now.rows c.args.moving.now c.args.numbers.now c.args.levels.now.values.items c.if-returns-head-ne0.links.items c.if-returns-head-ne0.word.items c.head_of-head.result c.if-returns-head-ne0.level = elim c.if-returns-head-ne0.branch [
      | then-returns-head-ne0+in_ok-back+in_ok-push+else-level-eq0 w ↦
          let links = ap (λ (v : Vec Link Global). v.items) w.links-is ∙ w.in_ok-push.ensures.items in
          let word = ap (λ (v : Vec ℕ Global). v.items) w.word-is ∙ w.new-word-then-returns-head-ne0.ensures.items in
          rw (links, word, w.level-is, w.of_letters.ensures, w.of_letters-then-returns-head-ne0.ensures) (ready_turn c.args.m.now.alphabet c.args.m.now.rows m c.args.moving.now c.requires.moving c.args.numbers.now c.requires.numbers c.args.returns.now c.requires.returns c.requires.few c.args.levels.now.values.items c.args.levels.now.heads.items c.requires.levels c.loop-level.links.items c.loop-level.word.items c.loop-level.at c.loop-level.level c.head_of-head.result c.walk.new.word.items p c.loop-level-test.true h c.in_ok-walk.ensures w.in_ok-back.back.items w.if-returns-head-ne0.true (omega (arith, w.if-level-eq0.false, c.loop-level-test.true)) w.in_ok-back.ensures)
      | else-returns-head-ne0 w ↦
          let alone = same_row c.args.m.now.alphabet c.args.m.now.rows m c.args.numbers.now c.requires.numbers c.args.moving.now c.requires.moving c.args.returns.now c.requires.returns c.head_of-head.result c.loop-level.at h.below p.below h.inside w.if-returns-head-ne0.false in
          rw (ap (λ (v : Vec Link Global). v.items) w.links-is, ap (λ (v : Vec ℕ Global). v.items) w.word-is, w.level-is)
          (ready_plain c.args.m.now.alphabet c.args.m.now.rows m c.args.moving.now c.requires.moving c.args.numbers.now c.requires.numbers c.args.returns.now c.requires.returns c.requires.few c.args.levels.now.values.items c.args.levels.now.heads.items c.requires.levels c.loop-level.links.items c.loop-level.word.items c.loop-level.at c.loop-level.level c.head_of-head.result c.walk.new.word.items p c.loop-level-test.true h c.in_ok-walk.ensures (sym alone) w.if-returns-head-ne0.false)
    ] in
    let k = rw c.deref.ensures.value at c.leaving_letter-x.ensures in
    let next = rw c.machine-machine.ensures.value at c.next-at.ensures.value in
    ready_more c.args.m.now.alphabet c.args.m.now.rows m c.args.moving.now c.requires.moving c.args.numbers.now c.requires.numbers c.args.returns.now c.requires.returns c.requires.few c.args.levels.now.values.items c.args.levels.now.heads.items c.requires.levels c.if-returns-head-ne0.links.items c.if-returns-head-ne0.word.items c.head_of-head.result c.if-returns-head-ne0.level c.leaving_letter-x.result c.next-at.result c.push-in-loop-level.new.self.items ready k next
    (rw c.machine-machine.ensures.value at c.next-at.ensures.row) c.in_ok-push-2.ensures.items

pub returns-clause-chain : goal.returns-clause-chain
returns-clause-chain c =
    let m = c.machine-machine.ensures.valid in
    let p = c.loop-level.invariant in
    elim c.loop-level-test.branch [
      | else-loop-level-test w ↦ rw (ap (λ (v : Vec Link Global). v.items) w.links-is) p.chain
      | then-loop-level-test+in_ok-walk+then-returns-head-ne0+in_ok-back+in_ok-push+then-level-eq0 w ↦
          let h : IsHead c.args.m.now.alphabet c.args.m.now.rows c.args.numbers.now c.args.returns.now c.args.levels.now.values.items (get_or c.args.numbers.now c.loop-level.at 0) w.head_of-head.result = rw w.head_of-head.ensures (part_head c.args.m.now.alphabet c.args.m.now.rows m c.args.moving.now c.requires.moving c.args.numbers.now c.requires.numbers c.args.returns.now c.requires.returns c.requires.few c.args.levels.now.values.items c.args.levels.now.heads.items c.requires.levels c.loop-level.links.items c.loop-level.word.items c.loop-level.at c.loop-level.level p w.loop-level-test.true) in
          rw (ap (λ (v : Vec Link Global). v.items) w.links-is ∙ w.in_ok-push.ensures.items, w.of_letters.ensures, w.of_letters-then-returns-head-ne0.ensures)
          (link_chain c.args.m.now.alphabet c.args.m.now.rows m c.args.moving.now c.requires.moving c.args.numbers.now c.requires.numbers c.args.returns.now c.requires.returns c.requires.few c.args.levels.now.values.items c.args.levels.now.heads.items c.requires.levels c.loop-level.links.items c.loop-level.word.items c.loop-level.at c.loop-level.level w.head_of-head.result w.walk.new.word.items p w.loop-level-test.true h w.in_ok-walk.ensures w.in_ok-back.back.items w.if-returns-head-ne0.true w.in_ok-back.ensures)
    ]

pub walk-requires-clause-tame : goal.walk-requires-clause-tame
walk-requires-clause-tame c = record {
  moving = c.args.moving.now;
  returns = c.args.returns.now;
  marks = c.requires.moving;
  counts = c.requires.returns;
  few = c.requires.few;
}

pub round_trip-requires-clause-some : goal.round_trip-requires-clause-some
round_trip-requires-clause-some c = (
  record {
    moving = c.args.moving.now;
    returns = c.args.returns.now;
    marks = c.requires.moving;
    counts = c.requires.returns;
    few = c.requires.few;
  },
  c.if-returns-head-ne0.true,
)

use Rattle.std.proofs.Common.{arith, refl, sym, ◌≡◌, ◌+◌, ◌-◌, ◌<◌, ◌∙◌, ap, get_or, length}
use Rattle.fr_model.specs.Words.{IsLetter}
use Rattle.fr_model.specs.Automata.{next_state}
use Rattle.fr_machine.specs.Rows.{states_of}
use Rattle.fr_machine.proofs.RowLaws.{next_row, next_row-lt}
use Rattle.fr_canon.proofs.ListingLaws.{IsRowBegun-more, IsRowListed-from, read_at}
use Rattle.fr_canon.proofs.canonical.list_row.Goals as goal

pub loop-x-preserved : goal.loop-x-preserved
loop-x-preserved c =
    let m = c.args.rows.now in
    let r = c.index-rows-key.result in
    let x = c.loop-x.x in
    let l : x < c.args.a = omega (arith, c.loop-x-test.true, c.letters-x-end.ensures.value) in
    let letter : IsLetter c.args.a (x + 1) = (omega arith, omega (arith, l)) in
    let back : x + 1 - 1 ≡ x = omega arith in
    let leads : get_or r.next x 0 ≡ next_state (states_of m) c.args.key (x + 1) = ap (λ i. get_or r.next i 0) (sym back) ∙ next_row c.args.a m c.requires.machine c.args.key c.requires.row r c.index-rows-key.is (x + 1) letter in
    let below : get_or r.next x 0 < length m = omega (arith, ap (λ i. get_or r.next i 0) back, next_row-lt c.args.a m c.requires.machine c.args.key c.requires.row r c.index-rows-key.is (x + 1) letter) in
    IsRowBegun-more c.args.a (length m) (next_state (states_of m)) c.args.walk.now c.loop-x.walk c.number-number.new.self c.args.key c.loop-x.next _ x c.number-number.result (get_or r.next x 0)
    c.loop-x.invariant c.requires.machine.letters l leads below c.number-number.ensures c.count-met.ensures.valid refl

pub returns : goal.returns
returns c =
    let m = c.args.rows.now in
    IsRowListed-from c.args.a m c.args.walk.now c.loop-x.walk c.args.key c.index-rows-key.result.perm c.loop-x.next c.loop-x.x c.requires.machine c.requires.row (ap (λ r. r.perm) (c.index-rows-key.is ∙ read_at m c.args.key c.index-rows-key.result c.requires.row)) c.loop-x.invariant
    (omega (arith, c.loop-x-test.false, c.loop-x.auto.x-end, c.letters-x-end.ensures.value))

use Rattle.std.proofs.Common.{ℕ, ◌≡◌, ◌<◌, length, get_or, arith, ap, List, []}
use Rattle.std.proofs.lemmas.List.{get_or_read}
use Rattle.std.proofs.lemmas.List.Elements.{All-get_or}
use Rattle.fr_machine.specs.declared.row.Row.{Row}
use Rattle.fr_machine.specs.Rows.{IsRow, IsMachine, row_at}
use Rattle.fr_classes.proofs.PredecessorLaws.{IsFilled-more}
use Rattle.fr_classes.proofs.predecessors.Predecessors.add_row.Goals as goal

-- the next row at a letter is a row
next_lt : (d : ℕ) (rows : List Row) (s x : ℕ) → IsMachine d rows → s < length rows → x < length (row_at rows s).perm → get_or (row_at rows s).next x 0 < length rows
next_lt d rows s x m l h =
    let i : IsRow d (length rows) (row_at rows s) = m.valid s _ l in
    All-get_or (λ n. n < length rows) (row_at rows s).next x 0 (omega (arith, i.width, i.permutes.degree, m.letters)) i.below

pub loop-x-preserved : goal.loop-x-preserved
loop-x-preserved c =
    let rows = c.args.rows.now in
    let s = c.args.s in
    let f : c.index-rows-s.result ≡ row_at rows s = get_or_read rows s _ c.requires.row c.index-rows-s.is (record { perm = []; next = [] }) in
    let inside : c.loop-x.x < length (row_at rows s).perm = omega (arith, c.loop-x-test.true, c.loop-x.auto.x-end, c.letters-x-end.ensures.value, ap (λ (q : Row). length q.perm) f) in
    let next = ap (λ (q : Row). get_or q.next c.loop-x.x 0) f in
    let lt = next_lt c.requires.machine.0 rows s c.loop-x.x c.requires.machine.1 c.requires.row inside in
    IsFilled-more rows c.loop-x.self c.add.new.self s c.loop-x.x _ c.loop-x.invariant c.requires.row (omega (arith, next, lt, c.loop-x.invariant.count)) next c.in_ok-add.ensures.links c.in_ok-add.ensures.count c.in_ok-add.ensures.lists

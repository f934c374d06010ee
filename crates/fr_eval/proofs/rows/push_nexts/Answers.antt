use Rattle.std.proofs.Common.{ℕ, ◌≡◌, ◌+◌, ◌<◌, ◌≤◌, ◌-◌, ◌++◌, List, length, drop, get_or, sym, ◌∙◌, ap, arith}
use Rattle.std.specs.Fmt.{decimal}
use Rattle.std.proofs.lemmas.Fmt.{length-decimal-le, decimal_nonempty}
use Rattle.std.proofs.lemmas.List.{length-drop, length-append, length-set}
use Rattle.std.proofs.lemmas.List.Elements.{All-get_or}
use Rattle.fr_machine.specs.declared.row.Row.{Row}
use Rattle.fr_machine.specs.Rows.{IsRow}
use Rattle.fr_eval.proofs.RowTextLaws.{numbers_of, length-numbers_of, number_at, numbers-last, numbers-before}
use Rattle.fr_eval.proofs.rows.push_nexts.Goals as goal
use Rattle.fr_eval.proofs.rows.push_nexts.Goals.{then-x-letters, else-x-letters}

-- a number of a next row has one to four digits
digits : (n : ℕ) (r : Row) (x : ℕ) → n ≤ 1024 → IsRow (length r.perm) n r → x < 8 → (0 < length (decimal (get_or r.next x 0 + 1))) × (length (decimal (get_or r.next x 0 + 1)) ≤ 4)
digits n r x few h l =
    let next : get_or r.next x 0 < n = All-get_or (λ k. k < n) r.next x 0 (omega (arith, l, h.width)) h.below in
    let m = get_or r.next x 0 + 1 in
    (decimal_nonempty m (omega (arith, next, few)), length-decimal-le 4 m (omega arith) (omega (arith, next, few)) (omega (arith, next, few)))

pub write_digits-at-requires : goal.write_digits-at-requires
write_digits-at-requires c =
    let row = c.args.row.now in
    let i = c.loop-x.invariant in
    let d = digits c.requires.0 row (c.loop-x.x - 1) c.requires.1 c.requires.2 (omega (arith, i.left, c.loop-x-test.true, c.letters-letters.ensures.most)) in
    elim c.if-x-letters.branch [
      | then-x-letters w ↦ (omega (arith, d.1, i.room, c.loop-x-test.true, w.at-is), rw w.text-is (omega (arith, i.most, i.width, w.at-is, length-set c.loop-x.text (c.loop-x.at - 1) 44)))
      | else-x-letters w ↦ (omega (arith, d.1, i.room, c.loop-x-test.true, w.at-is), rw w.text-is (omega (arith, i.most, i.width, w.at-is)))
    ]

-- how much of a buffer lies behind a number
written_length : (text text' ns : List ℕ) (start at : ℕ) → start + length ns ≡ at → at ≤ length text → 0 < length ns → drop start text' ≡ ns ++ drop at text → length text' ≡ length text
written_length text text' ns start at s most some d =
    let behind : length text' - start ≡ length ns + (length text - at) = sym (length-drop start text') ∙ ap length d ∙ length-append ns (drop at text) ∙ ap (λ k. length ns + k) (length-drop at text) in
    omega (arith, behind, s, most, some)

pub loop-x-preserved : goal.loop-x-preserved
loop-x-preserved c =
    let row = c.args.row.now in
    let i = c.loop-x.invariant in
    let x = c.loop-x.x - 1 in
    let one : x + 1 ≡ c.loop-x.x = omega (arith, c.loop-x-test.true) in
    let few : length row.perm ≤ 8 = omega (arith, c.letters-letters.ensures.value, c.letters-letters.ensures.most) in
    let inside : x < length row.perm = omega (arith, i.left, c.loop-x-test.true, c.letters-letters.ensures.value) in
    let size = length-numbers_of c.requires.0 row c.requires.2 few in
    let n = number_at c.requires.0 row c.requires.2 few x inside in
    let d = digits c.requires.0 row x c.requires.1 c.requires.2 (omega (arith, inside, few)) in
    let start = c.write_digits-at.ensures.start in
    elim c.if-x-letters.branch [
      | then-x-letters w ↦
          let wide : length c.if-x-letters.text ≡ 42 = ap length w.text-is ∙ length-set c.loop-x.text (c.loop-x.at - 1) 44 ∙ i.width in
          record {
            left = omega (arith, i.left);
            width = written_length c.if-x-letters.text c.write_digits-at.new.buf _ c.write_digits-at.result c.if-x-letters.at start (omega (arith, wide, w.at-is, i.most)) d.0 c.write_digits-at.ensures.written ∙ wide;
            room = omega (arith, d.1, i.room, one, start, w.at-is);
            most = omega (arith, d.0, i.most, start, w.at-is);
            written = numbers-before (numbers_of row) c.loop-x.text c.if-x-letters.text c.write_digits-at.new.buf x (get_or row.next x 0 + 1) c.loop-x.at c.write_digits-at.result
                (omega (arith, one, size, w.if-x-letters.true, c.letters-letters.ensures.value)) n (omega (arith, i.room)) (omega (arith, i.most, i.width)) (rw one i.written) w.text-is
                (c.write_digits-at.ensures.written ∙ ap (λ k. decimal (get_or row.next x 0 + 1) ++ drop k c.if-x-letters.text) w.at-is);
          }
      | else-x-letters w ↦
          let wide : length c.if-x-letters.text ≡ 42 = ap length w.text-is ∙ i.width in
          record {
            left = omega (arith, i.left);
            width = written_length c.if-x-letters.text c.write_digits-at.new.buf _ c.write_digits-at.result c.if-x-letters.at start (omega (arith, wide, w.at-is, i.most)) d.0 c.write_digits-at.ensures.written ∙ wide;
            room = omega (arith, d.1, i.room, one, start, w.at-is);
            most = omega (arith, d.0, i.most, start, w.at-is);
            written = numbers-last (numbers_of row) c.loop-x.text c.write_digits-at.new.buf x (get_or row.next x 0 + 1) c.loop-x.at c.write_digits-at.result
                (omega (arith, size, inside)) (omega (arith, one, size, w.if-x-letters.false, i.left, c.letters-letters.ensures.value)) n (rw one i.written)
                (c.write_digits-at.ensures.written ∙ ap (λ k. decimal (get_or row.next x 0 + 1) ++ drop k c.if-x-letters.text) w.at-is ∙ ap (λ t. decimal (get_or row.next x 0 + 1) ++ drop c.loop-x.at t) w.text-is);
          }
    ]

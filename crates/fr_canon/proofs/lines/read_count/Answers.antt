use Rattle.std.proofs.Common.{◌≡◌, arith, sym, ◌∙◌, ap, drop}
use Rattle.fr_canon.proofs.SplitLaws.{same_number}
use Rattle.fr_canon.proofs.lines.read_count.Goals as goal

pub returns-then-count-gt1024 : goal.returns-then-count-gt1024
returns-then-count-gt1024 c = λ n a b e.
    let digits : c.in-Some.digits.now ≡ drop 7 c.args.line.now = c.in-Some.ensures.cases.1 in
    let read = c.in-Some-number_of.ensures in
    let same = same_number n c.in-Some-number_of.count (omega arith) read.1 (sym (ap (drop 7) e) ∙ sym digits ∙ read.2) in
    omega (arith, same, c.if-count-gt1024.true)

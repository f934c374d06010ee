use Rattle.std.proofs.Common.{arith, ◌<◌, ◌∙◌, sym}
use Rattle.fr_canon.proofs.SplitLaws.{no_place, number_at, same_number, number_split}
use Rattle.std.specs.Fmt.{decimal}
use Rattle.fr_canon.proofs.lines.read_number.Goals as goal

pub returns-in_default : goal.returns-in_default
returns-in_default c = λ n rest a b e. no_place c.args.end c.args.text.now (decimal n) rest (sym c.place_of.ensures ∙ c.in_default.is) e

pub returns-in_default-number_of : goal.returns-in_default-number_of
returns-in_default-number_of c = λ n rest a b e.
    let l : n < 10000 = omega (arith, c.requires.most) in
    c.in_default-number_of.ensures n a l (number_at c.args.end c.args.text.now c.in-Some.length n rest (sym c.place_of.ensures ∙ c.in-Some.is) c.requires.end l e)

pub returns-then-number-most : goal.returns-then-number-most
returns-then-number-most c = λ n rest a b e.
    let l : n < 10000 = omega (arith, c.requires.most) in
    let here = number_at c.args.end c.args.text.now c.in-Some.length n rest (sym c.place_of.ensures ∙ c.in-Some.is) c.requires.end l e in
    let read = c.in-Some-number_of.ensures in
    let same = same_number n c.in-Some-number_of.number l read.1 (sym here ∙ read.2) in
    omega (arith, same, c.if-number-most.true)

pub returns : goal.returns
returns c =
    let read = c.in-Some-number_of.ensures in
    (read.0, c.if-number-most.false, number_split c.args.end c.args.text.now c.in-Some.length c.in-Some-number_of.number (sym c.place_of.ensures ∙ c.in-Some.is) read.2)

use Rattle.std.proofs.Common.{◌≡◌, ℕ, ◌-◌, ◌+◌, subst, ap, arith}
use Rattle.fr_block.specs.Closures.{AreNameWords, one_name}
use Rattle.fr_block.proofs.ClosureLaws.{names_more}
use Rattle.fr_block.proofs.words.Words.of_names.Goals as goal

pub loop-name-preserved : goal.loop-name-preserved
loop-name-preserved c =
    let first = c.args.first in
    let k = c.loop-name.name - first in
    let w = one_name c.loop-name.name in
    let next : k + 1 ≡ c.loop-name.name + 1 - first = omega (arith, c.loop-name.auto.name) in
    let here : c.loop-name.name ≡ first + k = omega (arith, c.loop-name.auto.name) in
    let P : ℕ → Type 0 = λ j. AreNameWords first j c.number.new.self in
    subst P next (names_more first k c.loop-name.words c.number.new.self w c.in_ok-number.field-0 c.loop-name.invariant (omega (arith, c.requires, c.loop-name-test.true, c.loop-name.auto.name)) (ap one_name here) c.in_ok-number.ensures)

use Rattle.std.proofs.Common.{arith, refl, ◌≡◌, ◌≢◌, ◌+◌, ◌<◌, ◌∙◌, ap, sym, get_or, length}
use Rattle.fr_model.specs.Ranks.{rank}
use Rattle.fr_canon.proofs.ComparingLaws.{other_next, same_part}
use Rattle.fr_canon.proofs.canonical.has_state.Goals as goal

pub returns-then-numbers-start-2 : goal.returns-then-numbers-start-2
returns-then-numbers-start-2 c =
    let code = c.args.code.now in
    let r = c.args.row.now in
    let n : get_or code (c.args.start + c.loop-x.x + 1) 0 ≢ get_or r.next c.loop-x.x 0 + 1 = λ e. c.if-numbers-start-2.true (ap (λ xs. get_or xs (c.args.start + c.loop-x.x + 1) 0) c.numbers-numbers.ensures.value ∙ e) in (
      λ h. absurd (cc),
      λ h. absurd (other_next c.args.a c.args.start code r c.requires.degree c.requires.width (omega (arith, c.letters-letters.ensures.most, c.letters-letters.ensures.value)) c.loop-x.x (omega (arith, c.loop-x-test.true, c.letters-letters.ensures.value)) n h),
    )

pub returns : goal.returns
returns c =
    let code = c.args.code.now in
    let r = c.args.row.now in
    let long : c.args.start + c.args.a < length code = omega (arith, c.if-start-letters.false, ap length c.numbers-numbers.ensures.value, c.letters-letters.ensures.value) in
    let first : get_or code c.args.start 0 ≡ rank r.perm = ap (λ xs. get_or xs c.args.start 0) (sym c.numbers-numbers.ensures.value) ∙ c.if-numbers-start.false ∙ c.rank.ensures.value in (
      λ h. same_part c.args.a c.args.start code r c.requires.degree c.requires.width (omega (arith, c.letters-letters.ensures.most, c.letters-letters.ensures.value)) long first (λ x l. c.loop-x.invariant x (omega (arith, l, c.loop-x-test.false, c.letters-letters.ensures.value))),
      λ h. refl,
    )

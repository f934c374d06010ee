use Rattle.std.proofs.Common.{arith, rules, refl, take, ◌≡◌, ◌∙◌, ap, sym, inl, inr, length, ◌<◌, false}
use Rattle.std.specs.Str.{all_ascii_digits}
use Rattle.std.specs.Prelude.{◌==◌}
use Rattle.std.proofs.lemmas.Bool.{cases_lt, eq-eqb}
use Rattle.std.proofs.lemmas.List.{take_all}
use Rattle.fr_canon.proofs.SplitLaws.{read_on, not_decimal, not_digit, decimal_read}
use Rattle.fr_canon.proofs.lines.number_of.Goals as goal
use Rattle.fr_canon.proofs.lines.number_of.Goals.{then-is_empty-via-then-is_empty, then-is_empty-via-else-is_empty+then-digits-gt4, then-is_empty-via-else-is_empty+else-digits-gt4+then-digits-eq48, then-digit-lt48-via-then-digit-lt48, then-digit-lt48-via-else-digit-lt48+then-digit-gt57}

pub returns-then-is_empty : goal.returns-then-is_empty
returns-then-is_empty c = λ n a b e.
    let d = not_decimal c.args.digits.now n a b e in
    elim c.then-is_empty.branch [
      | then-is_empty-via-then-is_empty w ↦ (let z : length c.args.digits.now ≡ 0 = search (rules, w.if-is_empty.ensures) in omega (arith, z, d.1))
      | then-is_empty-via-else-is_empty+then-digits-gt4 w ↦ omega (arith, w.if-digits-gt4.true, d.2)
      | then-is_empty-via-else-is_empty+else-digits-gt4+then-digits-eq48 w ↦ d.3 w.if-digits-eq48.true
    ]

pub returns-then-digit-lt48 : goal.returns-then-digit-lt48
returns-then-digit-lt48 c = λ n a b e. elim c.then-digit-lt48.branch [
  | then-digit-lt48-via-then-digit-lt48 w ↦ not_digit c.args.digits.now c.loop-digit.digit-index _ n c.loop-digit-test.true refl (inl w.if-digit-lt48.true) a b e
  | then-digit-lt48-via-else-digit-lt48+then-digit-gt57 w ↦ not_digit c.args.digits.now c.loop-digit.digit-index _ n c.loop-digit-test.true refl (inr w.if-digit-gt57.true) a b e
]

pub returns : goal.returns
returns c =
    let ds = c.args.digits.now in
    let all : take c.loop-digit.digit-index ds ≡ ds = take_all c.loop-digit.digit-index ds c.loop-digit-test.false in
    let number : c.loop-digit.number ≡ read_on 0 ds = c.loop-digit.invariant.number ∙ ap (read_on 0) all in
    let some : 0 < length ds = elim (cases_lt 0 (length ds)) [
      | inl h ↦ h
      | inr h ↦
          let t = eq-eqb (length ds) 0 (omega arith) in
          let f : false ≡ (length ds == 0) = c.if-is_empty.ensures in
          cc
    ] in
    let read = decimal_read ds (ap all_ascii_digits (sym all) ∙ c.loop-digit.invariant.digits) some c.if-digits-gt4.false c.if-digits-eq48.false in
    rw number read

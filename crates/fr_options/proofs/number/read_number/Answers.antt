use Rattle.std.proofs.Common.{inl, inr, ◌≡◌, ◌<◌, ℕ, Bool, true, false, ◌&&◌, if◌then◌else◌, nat_le, length, List, Some, None, Result, Ok, Err, refl, sym, ◌∙◌, ap, arith, ◌^◌}
use Rattle.std.specs.Result.{result_ok}
use Rattle.std.specs.Str.{all_ascii_digits}
use Rattle.std.specs.Str.Parse.{digits_value, ParsesUnsigned}
use Rattle.std.proofs.lemmas.Bool.{lt-leb, leb-true, cases_order, true≢false}
use Rattle.std.proofs.lemmas.Option.{none-some}
use Rattle.std.proofs.lemmas.Str.Parse.{IsNumeralModel, numerals_by_value, tells_all_ascii_digits, parse_digits}
use Rattle.fr_options.specs.Numbers.{is_number, number_between}
use Rattle.fr_options.proofs.number.read_number.Goals as goal

model : IsNumeralModel (λ ds. all_ascii_digits ds ≡ true) (digits_value 10)
model = numerals_by_value (λ ds. all_ascii_digits ds ≡ true) tells_all_ascii_digits

last : (a b c : Bool) → a && b && c ≡ true → c ≡ true
last true true c e = e
last true false c e = absurd (true≢false (sym e))
last false true c e = absurd (true≢false (sym e))
last false false c e = absurd (true≢false (sym e))

first : (a b c : Bool) → a && b && c ≡ true → a ≡ true
first true b c e = refl
first false b c e = absurd (true≢false (sym e))

never : (a b : Bool) (v : ℕ) → (if a && b && false then Some v else None) ≡ None
never true true v = refl
never true false v = refl
never false true v = refl
never false false v = refl

large : (least most : ℕ) (text : List ℕ) → most < digits_value 10 text → number_between least most text ≡ None
large least most text h =
    ap (λ t. if is_number text && nat_le least (digits_value 10 text) && t then Some (digits_value 10 text) else None) (lt-leb (digits_value 10 text) most h)
    ∙ never (is_number text) (nat_le least (digits_value 10 text)) (digits_value 10 text)

-- digits that are not read write a number that is too large
unread : {E : Type 0} (least most : ℕ) (text : List ℕ) (r : Result ℕ E) → ParsesUnsigned 32 10 text r → is_number text ≡ true → most < 2 ^ 32 → result_ok r ≡ None → number_between least most text ≡ None
unread least most text (Ok n) parses digits fits e = absurd (none-some n (sym e))
unread least most text (Err d) parses digits fits e =
    let few = leb-true 1 (length text) (first (nat_le 1 (length text)) (nat_le (length text) 10) (all_ascii_digits text) digits) in
    let fails = parse_digits model 32 text (Err d) parses (last (nat_le 1 (length text)) (nat_le (length text) 10) (all_ascii_digits text) digits) in
    elim (cases_order (digits_value 10 text) most) [
      | inl same ↦ absurd (fails (omega (arith, few), omega (arith, same, fits)))
      | inr o ↦ elim o [
        | inl less ↦ absurd (fails (omega (arith, few), omega (arith, less, fits)))
        | inr more ↦ large least most text more
      ]
    ]

pub returns-in_err-value-clause-number : goal.returns-in_err-value-clause-number
returns-in_err-value-clause-number c =
    let digits : is_number c.args.text.now ≡ true = cc in
    c.from_residual.ensures ∙ sym (unread c.args.least c.args.most c.args.text.now c.parse.result c.parse.ensures.value.0 digits (omega (arith, c.ranges.most)) (sym c.in_err-value.ensures.value))

use Rattle.std.proofs.Common.{ℕ, arith, ◌≡◌, ◌≢◌, ◌+◌, ◌∙◌, refl, inr, ap, sym, subst, List, length, Option, false}
use Rattle.std.specs.Prelude.{MatchOption, ◌==◌}
use Rattle.std.proofs.lemmas.Bool.{eq-eqb}
use Rattle.std.specs.List.{All}
use Rattle.std.proofs.lemmas.List.Elements.{All-push}
use Rattle.std.proofs.lemmas.List.{length_push}
use Rattle.fr_model.specs.Automata.{State, IsState}
use Rattle.fr_machine.specs.declared.row.Row.{Row}
use Rattle.fr_machine.specs.Rows.{IsRow, state_of, states_of}
use Rattle.fr_machine.proofs.RowLaws.{length-states_of}
use Rattle.fr_canon.specs.Texts.{state_line}
use Rattle.fr_canon.specs.Readings.{BeginsWith, HasNoState, at_count, at_state, at_rest}
use Rattle.fr_canon.proofs.LineLaws.{no_line_no_count, no_count, no_line_no_state, no_state_line, BeginsWith-more, IsState-row, states_of-push}
use Rattle.fr_canon.proofs.reading.read_rows.Goals as goal

pub returns-in_default-clause-err : goal.returns-in_default-clause-err
returns-in_default-clause-err c = inr (1, refl, at_count (no_line_no_count c.args.text.now c.in_default.ensures) refl)

pub returns-in_default-read_count-clause-err : goal.returns-in_default-read_count-clause-err
returns-in_default-read_count-clause-err c =
    let split = c.in-Some.ensures in
    inr (1, refl, at_count (no_count c.args.text.now c.in-Some.first.now c.in-Some.lines.now split.0 split.1 c.in_default-read_count.ensures) refl)

pub returns-in_default-split_line-clause-err : goal.returns-in_default-split_line-clause-err
returns-in_default-split_line-clause-err c =
    let qs = states_of c.loop-k.rows.items in
    let n = c.in-Some-read_count.count in
    let size : length qs ≡ c.loop-k.k = length-states_of c.loop-k.rows.items ∙ c.loop-k.invariant.count in
    inr (c.loop-k.k + 2, refl, at_state n qs c.loop-k.rest.now c.loop-k.invariant.begins (omega (arith, size, c.loop-k-test.true)) (no_line_no_state c.args.a n (length qs + 1) c.loop-k.rest.now c.in_default-split_line.ensures) (omega (arith, size)))

pub returns-in_default-2-clause-err : goal.returns-in_default-2-clause-err
returns-in_default-2-clause-err c =
    let qs = states_of c.loop-k.rows.items in
    let n = c.in-Some-read_count.count in
    let line = c.in-Some-split_line.line.now in
    let size : length qs ≡ c.loop-k.k = length-states_of c.loop-k.rows.items ∙ c.loop-k.invariant.count in
    let split = c.in-Some-split_line.ensures in
    let F : Option Row → Type 0 = λ o. MatchOption o ((q : State) → IsState c.args.a n q → line ≢ state_line (c.loop-k.k + 1) q) (λ r. IsRow c.args.a n r × (line ≡ state_line (c.loop-k.k + 1) (state_of r))) in
    let P : ℕ → Type 0 = λ k. HasNoState c.args.a n (k + 1) c.loop-k.rest.now in
    inr (
      c.loop-k.k + 2,
      refl,
      at_state n qs c.loop-k.rest.now c.loop-k.invariant.begins (omega (arith, size, c.loop-k-test.true))
          (subst P (sym size) (no_state_line c.args.a n (c.loop-k.k + 1) c.loop-k.rest.now line c.in-Some-split_line.more.now c.loop-k.invariant.begins.few (omega (arith, c.loop-k-test.true, c.loop-k.invariant.begins.few)) split.0 split.1 (subst F c.in_default-2.is c.in_ok-row.ensures))) (omega (arith, size)),
    )

pub loop-k-preserved : goal.loop-k-preserved
loop-k-preserved c =
    let rows = c.loop-k.rows.items in
    let qs = states_of rows in
    let n = c.in-Some-read_count.count in
    let line = c.in-Some-split_line.line.now in
    let row = c.in-Some-2.row in
    let size : length qs ≡ c.loop-k.k = length-states_of rows ∙ c.loop-k.invariant.count in
    let split = c.in-Some-split_line.ensures in
    let F : Option Row → Type 0 = λ o. MatchOption o ((q : State) → IsState c.args.a n q → line ≢ state_line (c.loop-k.k + 1) q) (λ r. IsRow c.args.a n r × (line ≡ state_line (c.loop-k.k + 1) (state_of r))) in
    let read = subst F c.in-Some-2.is c.in_ok-row.ensures in
    let begins = BeginsWith-more c.args.a n (c.loop-k.k + 1) c.args.text.now qs c.loop-k.rest.now line c.in-Some-split_line.more.now (state_of row) c.loop-k.invariant.begins (omega (arith, size, c.loop-k-test.true)) (ap (λ k. k + 1) (sym size)) split.1 (IsState-row c.args.a n row c.requires.letters read.0) read.1 in
    let P : List State → Type 0 = λ ps. BeginsWith c.args.a n c.args.text.now ps c.in-Some-split_line.more.now in
    let items = c.in_ok-push.ensures.items in
    let R : List Row → Type 0 = λ rs. All (λ r. IsRow c.args.a n r) rs in
    record {
      rows = subst R (sym items) (All-push (λ r. IsRow c.args.a n r) rows row c.loop-k.invariant.rows read.0);
      count = ap length items ∙ length_push rows row ∙ ap (λ k. k + 1) c.loop-k.invariant.count;
      begins = subst P (sym (ap states_of items ∙ states_of-push rows row)) begins;
    }

pub returns-else-is_empty-clause-err : goal.returns-else-is_empty-clause-err
returns-else-is_empty-clause-err c =
    let qs = states_of c.loop-k.rows.items in
    let n = c.in-Some-read_count.count in
    let size : length qs ≡ n = omega (arith, length-states_of c.loop-k.rows.items, c.loop-k.invariant.count, c.loop-k-test.false, c.loop-k.invariant.begins.within) in
    inr (
      n + 2,
      refl,
      at_rest n qs c.loop-k.rest.now c.loop-k.invariant.begins size (λ e.
          let t = eq-eqb (length c.loop-k.rest.now) 0 (ap length e) in
          let f : false ≡ (length c.loop-k.rest.now == 0) = c.if-is_empty.ensures in
          cc) refl,
    )

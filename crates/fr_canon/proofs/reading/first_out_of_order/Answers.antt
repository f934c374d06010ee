use Rattle.std.proofs.Common.{ℕ, arith, ◌∙◌, ap, sym, subst, List}
use Rattle.fr_machine.specs.Rows.{states_of}
use Rattle.fr_classes.specs.Numberings.{IsNumberedFrom}
use Rattle.fr_machine.proofs.RowLaws.{IsAutomaton-states_of, length-states_of}
use Rattle.fr_canon.proofs.OrderReadLaws.{met_with, unmet, too_far, IsOrderRead-more, next_of_row}
use Rattle.fr_canon.proofs.reading.first_out_of_order.Goals as goal

pub returns-then-k-met : goal.returns-then-k-met
returns-then-k-met c =
    let rows = c.args.rows.now in
    unmet c.args.d (states_of rows) (IsAutomaton-states_of c.args.d rows c.requires.rows) c.loop-k.k c.loop-k.met c.loop-k.invariant (omega (arith, c.loop-k-test.true, length-states_of rows)) c.if-k-met.true

pub returns-in_default : goal.returns-in_default
returns-in_default c =
    let rows = c.args.rows.now in
    let next = next_of_row c.args.d rows c.requires.rows c.loop-k.k c.loop-k-test.true c.index-rows-k.result c.index-rows-k.is in
    too_far c.args.d (states_of rows) (IsAutomaton-states_of c.args.d rows c.requires.rows) c.loop-k.k c.loop-k.met c.loop-k.invariant (omega (arith, c.loop-k-test.true, length-states_of rows))
    (λ f. c.in_default.ensures (let P : List ℕ → Type 0 = λ xs. IsNumberedFrom c.loop-k.met xs in subst P next f))

pub loop-k-preserved : goal.loop-k-preserved
loop-k-preserved c =
    let rows = c.args.rows.now in
    let next = next_of_row c.args.d rows c.requires.rows c.loop-k.k c.loop-k-test.true c.index-rows-k.result c.index-rows-k.is in
    let P : List ℕ → Type 0 = λ xs. IsNumberedFrom c.loop-k.met xs in
    let read = c.in-Some.ensures in
    IsOrderRead-more c.args.d (states_of rows) (IsAutomaton-states_of c.args.d rows c.requires.rows) c.loop-k.k c.loop-k.met c.loop-k.invariant (omega (arith, c.loop-k-test.true, length-states_of rows)) c.if-k-met.false c.in-Some.after
    (subst P (sym next) read.0) (read.1 ∙ ap (met_with c.loop-k.met) (sym next))

use Rattle.std.proofs.Common.{arith}
use Rattle.fr_machine.specs.Rows.{states_of}
use Rattle.std.proofs.lemmas.Result.{IfErr-weaker}
use Rattle.fr_canon.proofs.WalkReadLaws.{IsMachineText-rows}
use Rattle.fr_canon.proofs.FaultLaws.{accepted, only_memory, syntax_fault, order_fault, StopsRows, StopsText}
use Rattle.fr_canon.proofs.reading.read_machine.Goals as goal

pub returns-in-Ok-clause-err : goal.returns-in-Ok-clause-err
returns-in-Ok-clause-err c =
    let read = c.in-Ok.ensures in
    let qs = states_of c.in-Ok.rows.items in
    let text = IsMachineText-rows c.args.a c.in-Ok.rows.items c.args.text.now read.rows read.few read.written in
    IfErr-weaker c.minimal_of.result (StopsRows qs) (StopsText c.args.a c.args.text.now) (λ e h. order_fault c.args.a c.args.text.now qs e text h) c.minimal_of.ensures.err

pub returns-in-Err-clause-err : goal.returns-in-Err-clause-err
returns-in-Err-clause-err c = syntax_fault c.args.a c.args.text.now c.in-Err.fault c.in-Err.ensures.err

pub returns-in-Ok-clause-accepts : goal.returns-in-Ok-clause-accepts
returns-in-Ok-clause-accepts c = λ t qs valid canonical few is.
    let read = c.in-Ok.ensures in
    let rows = c.in-Ok.rows.items in
    let text = IsMachineText-rows c.args.a rows c.args.text.now read.rows read.few read.written in
    accepted c.args.a c.args.text.now rows t qs c.minimal_of.result read.rows.letters text c.minimal_of.ensures.value (returns-in-Ok-clause-err c) valid canonical few is

pub returns-in-Err-clause-accepts : goal.returns-in-Err-clause-accepts
returns-in-Err-clause-accepts c = λ t qs valid canonical few is.
    let fault = syntax_fault c.args.a c.args.text.now c.in-Err.fault c.in-Err.ensures.err in
    only_memory c.args.a c.args.text.now t qs c.in-Err.fault (omega (arith, c.letters-letters.ensures.most, c.letters-letters.ensures.value)) valid canonical few is fault

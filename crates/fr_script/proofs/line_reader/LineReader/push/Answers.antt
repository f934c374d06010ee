use Rattle.std.proofs.Common.{sym, ◌∙◌}
use Rattle.fr_script.proofs.FitReaders.{push-fits}
use Rattle.fr_script.proofs.line_reader.LineReader.push.Goals as goal

pub invariant_of-self-2 : goal.invariant_of-self-2
invariant_of-self-2 c =
    (push-fits c.self.inside.state c.in-Some.state c.args.line.now c.in_ok-state.field-0 (sym c.take.ensures.value ∙ c.in-Some.is) c.self.invariant
    c.if-state-ge-LINES_LIMIT.false c.in_ok-state.ensures).0

pub returns-clause-fits : goal.returns-clause-fits
returns-clause-fits c =
    (push-fits c.self.inside.state c.in-Some.state c.args.line.now c.in_ok-state.field-0 (sym c.take.ensures.value ∙ c.in-Some.is) c.self.invariant
    c.if-state-ge-LINES_LIMIT.false c.in_ok-state.ensures).1

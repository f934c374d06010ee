use Rattle.std.proofs.Common.{length, ◌-◌, ◌<◌, ◌≤◌, ap, arith, rules}
use Rattle.std.proofs.lemmas.Result.{err_from_is_err_and}
use Rattle.fr_io.proofs.Joins.{gave_part, gave_more}
use Rattle.fr_io.proofs.sink.put_all.Goals as goal

pub returns-in_err-count-clause-part : goal.returns-in_err-count-clause-part
returns-in_err-count-clause-part g c =
    let p = err_from_is_err_and c.from_residual.result c.from_residual.ensures.1 in
    let fits : c.loop-done.done < length c.args.bytes.now = omega arith in
    rw p.1 (gave_part (g.T.Sink.written c.args.out.now) (g.T.Sink.written c.loop-done.out) (g.T.Sink.written c.write.new.self) c.args.bytes.now c.loop-done.done fits c.loop-done.invariant.gave c.in_err-count.ensures.bytes c.in_err-count.ensures.told)

pub returns-in_err-count-clause-empty : goal.returns-in_err-count-clause-empty
returns-in_err-count-clause-empty g c = λ none. absurd (omega (arith, ap length none))

pub returns-clause-empty : goal.returns-clause-empty
returns-clause-empty g c = λ none. (search rules, c.loop-done.invariant.empty none)

pub loop-done-preserved : goal.loop-done-preserved
loop-done-preserved g c =
    let short : c.in_ok-count.count ≤ length c.args.bytes.now - c.loop-done.done = search rules in
    record {
      within = omega (arith, short, c.loop-done.invariant.within);
      gave = gave_more (g.T.Sink.written c.args.out.now) (g.T.Sink.written c.loop-done.out) (g.T.Sink.written c.write.new.self) c.args.bytes.now c.loop-done.done c.in_ok-count.count c.loop-done.invariant.gave c.in_ok-count.ensures.bytes c.in_ok-count.ensures.told short;
      later = omega (arith, c.loop-done.invariant.later, c.write.ensures.cause.later);
      empty = λ none. absurd (omega (arith, ap length none));
    }

use Rattle.std.proofs.lemmas.Result.{err_from_is_err_and}
use Rattle.fr_plain.specs.Steps.{Identity}
use Rattle.fr_plain.specs.Expansions.{step}
use Rattle.fr_expr.proofs.EvaluationLaws.{gives_up, Reads-none}
use Rattle.fr_expr.proofs.steps.made_identity.Goals as goal

pub returns-in_err-m-clause-evaluates : goal.returns-in_err-m-clause-evaluates
returns-in_err-m-clause-evaluates g c =
    let p = err_from_is_err_and c.from_residual.result c.from_residual.ensures.1 in
    rw (p.1, p.2)
    (gives_up g.S.Store.view g.met.S.Store.kin_onward (g.S.Store.view.alphabet c.args.store.now) (step Identity) c.args.store.now c.args.store.now c.args.charge.now
    (Reads-none g.S.Store.view g.met.S.Store.kin_to_self c.args.store.now))

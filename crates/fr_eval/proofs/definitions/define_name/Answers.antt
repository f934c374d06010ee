use Rattle.std.proofs.Common.{refl}
use Rattle.std.proofs.lemmas.Result.{err_from_is_err_and}
use Rattle.fr_syntax.specs.declared.statement.Statement.TheVariants as st
use Rattle.fr_plain.specs.Expansions.{expansion}
use Rattle.fr_expr.specs.Tables.{names_in}
use Rattle.fr_eval.proofs.AskLaws.{bound_above}
use Rattle.fr_eval.proofs.DefineLaws.{made_early, name_binds, name_joins, name_ends, names_stay, adds_name, binds_name, ends_not_fine}
use Rattle.fr_eval.proofs.definitions.define_name.Goals as goal

pub eval-requires-clause-bound : goal.eval-requires-clause-bound
eval-requires-clause-bound g c = bound_above (g.S.Store.view.known c.args.store.now) (names_in c.args.env.now) c.args.line c.requires.known

pub returns-in_err-bind-in-Ok-clause-defines : goal.returns-in_err-bind-in-Ok-clause-defines
returns-in_err-bind-in-Ok-clause-defines g c = λ scope names.
    let p = err_from_is_err_and c.from_residual.result c.from_residual.ensures.1 in
    let view = g.S.Store.view in
    rw (p.1, p.2)
    (made_early view (view.alphabet c.args.store.now) scope (st.Let c.args.name.now c.args.e.now) c.args.store.now c.eval.new.store c.args.charge.now c.eval.new.charge (expansion scope c.args.e.now).steps refl (c.in-Ok.ensures.evaluates scope names).makes, refl)

pub returns-in_ok-bind-in-Ok-clause-defines : goal.returns-in_ok-bind-in-Ok-clause-defines
returns-in_ok-bind-in-Ok-clause-defines g c = λ scope names.
    let view = g.S.Store.view in
    let d = view.alphabet c.args.store.now in
    let value = c.in-Ok.ensures.evaluates scope names in
    name_binds view d c.args.line scope c.args.name.now c.args.e.now c.args.store.now c.eval.new.store c.args.charge.now c.eval.new.charge (names_in c.bind.new.self) c.args.out.now.items c.in-Ok.handle value
    (name_joins d c.args.line (view.known c.args.store.now) (view.known c.eval.new.store) (names_in c.args.env.now) (names_in c.bind.new.self) scope c.args.name.now c.in-Ok.handle (expansion scope c.args.e.now).value
    c.in-Ok.ensures.keeps c.requires.above c.in_ok-bind-in-Ok.ensures.bound value.handle names)

pub returns-in_ok-bind-in-Ok-clause-adds : goal.returns-in_ok-bind-in-Ok-clause-adds
returns-in_ok-bind-in-Ok-clause-adds g c = adds_name c.args.line c.args.name.now c.in-Ok.handle (names_in c.args.env.now) (names_in c.bind.new.self) c.in_ok-bind-in-Ok.ensures.bound

pub returns-in-Err-clause-defines : goal.returns-in-Err-clause-defines
returns-in-Err-clause-defines g c = λ scope names.
    let view = g.S.Store.view in
    let d = view.alphabet c.args.store.now in
    name_ends view d c.args.line scope c.args.name.now c.args.e.now c.args.store.now c.eval.new.store c.args.charge.now c.eval.new.charge (names_in c.args.env.now) c.args.out.now.items c.end_with.new.out.items c.in-Err.fault c.end_with.result
    (c.in-Err.ensures.evaluates scope names) c.end_with.ensures
    (names_stay d c.args.line (view.known c.args.store.now) (view.known c.eval.new.store) (names_in c.args.env.now) (names_in c.args.env.now) scope c.in-Err.ensures.keeps c.requires.above (λ q. refl) names)

pub returns-in_ok-bind-in-Ok-clause-binds : goal.returns-in_ok-bind-in-Ok-clause-binds
returns-in_ok-bind-in-Ok-clause-binds g c = λ scope names fine.
    let view = g.S.Store.view in
    binds_name (view.alphabet c.args.store.now) (view.known c.eval.new.store) c.args.line scope c.args.name.now c.args.e.now (names_in c.args.env.now) (names_in c.bind.new.self) c.in-Ok.handle
    (c.in-Ok.ensures.evaluates scope names).handle c.in_ok-bind-in-Ok.ensures.bound

pub returns-in-Err-clause-binds : goal.returns-in-Err-clause-binds
returns-in-Err-clause-binds g c = λ scope names fine.
    absurd (ends_not_fine c.args.line c.in-Err.fault c.args.out.now.items c.end_with.new.out.items c.end_with.result c.end_with.ensures fine)

use Rattle.std.proofs.Common.{refl, sym, subst}
use Rattle.fr_syntax.specs.declared.statement.Statement.{Statement}
use Rattle.fr_expr.specs.Tables.{names_in}
use Rattle.fr_eval.specs.declared.ends.LineEnd.TheVariants.{Fine}
use Rattle.fr_eval.specs.Bindings.{Binds}
use Rattle.fr_eval.specs.Telling.{Leaves}
use Rattle.fr_eval.proofs.DefineLaws.{alphabet_leaves, names_stay, binds_none}
use Rattle.fr_eval.proofs.definitions.define.Goals as goal

pub returns-in-Alphabet-clause-defines : goal.returns-in-Alphabet-clause-defines
returns-in-Alphabet-clause-defines g c = λ scope names.
    let view = g.S.Store.view in
    let store = c.args.store.now in
    let d = view.alphabet store in
    let bindings = names_in c.args.env.now in
    let out = c.args.out.now.items in
    subst (λ (s : Statement). Leaves view d c.args.line scope s store store c.args.charge.now c.args.charge.now bindings out out Fine) (sym c.in-Alphabet.is)
    (alphabet_leaves view g.met.S.Store.kin_to_self g.met.S.Store.kin_onward d c.args.line c.in-Alphabet.field-0 scope store c.args.charge.now bindings out
    (names_stay d c.args.line (view.known store) (view.known store) bindings bindings scope (λ n code k. k) c.requires.above (λ q. refl) names))

pub returns-in-Alphabet-clause-binds : goal.returns-in-Alphabet-clause-binds
returns-in-Alphabet-clause-binds g c = λ scope names fine.
    let view = g.S.Store.view in
    let store = c.args.store.now in
    let d = view.alphabet store in
    let bindings = names_in c.args.env.now in
    subst (λ (s : Statement). Binds d (view.known store) c.args.line scope s bindings bindings) (sym c.in-Alphabet.is)
    (binds_none d (view.known store) c.args.line c.in-Alphabet.field-0 scope bindings)

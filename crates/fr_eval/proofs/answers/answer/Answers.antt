use Rattle.std.proofs.Common.{refl}
use Rattle.std.proofs.lemmas.Result.{err_from_is_err_and}
use Rattle.fr_syntax.specs.declared.statement.Statement.TheVariants as st
use Rattle.fr_plain.specs.Answers.{AnswersShow, AnswersStates, AnswersWreath, AnswersClass, AnswersAct}
use Rattle.fr_expr.specs.Tables.{names_in}
use Rattle.fr_eval.proofs.AskLaws.{bound_above, one_halts, one_prints, one_gives_up}
use Rattle.fr_eval.proofs.answers.answer.Goals as goal

pub eval-requires-clause-bound : goal.eval-requires-clause-bound
eval-requires-clause-bound g c = bound_above (g.S.Store.view.known c.args.store.now) (names_in c.args.env.now) c.args.line c.requires.known

pub returns-in_err-h-in-Show-clause-answered : goal.returns-in_err-h-in-Show-clause-answered
returns-in_err-h-in-Show-clause-answered g c = λ scope names.
    let p = err_from_is_err_and c.from_residual.result c.from_residual.ensures.1 in
    let view = g.S.Store.view in
    let d = view.alphabet c.args.store.now in
    rw (p.1, p.2)
    (one_halts view g.met.S.Store.kin_onward d c.args.line scope (st.Show c.in-Show.e) c.in-Show.e (AnswersShow d) (λ o h. h) refl c.args.statement.now c.args.store.now c.eval.new.store c.args.charge.now c.eval.new.charge c.args.out.now.items c.in_err-h-in-Show.field-0.0 c.in-Show.is
    (c.in_err-h-in-Show.ensures.evaluates scope names))

pub returns-in_err-show-in-Show-clause-answered : goal.returns-in_err-show-in-Show-clause-answered
returns-in_err-show-in-Show-clause-answered g c = λ scope names.
    let p = err_from_is_err_and c.from_residual-in_err-show-in-Show.result c.from_residual-in_err-show-in-Show.ensures.1 in
    let view = g.S.Store.view in
    let d = view.alphabet c.args.store.now in
    rw (p.1, p.2)
    (one_gives_up view g.met.S.Store.kin_onward d c.args.line scope (st.Show c.in-Show.e) c.in-Show.e AnswersShow (λ o h. h) refl (λ more e. e) c.args.statement.now c.args.store.now c.eval.new.store c.show.new.store c.args.charge.now c.eval.new.charge c.args.out.now.items c.show.new.out.items c.in_ok-h-in-Show.h c.in-Show.is
    (c.in_ok-h-in-Show.ensures.evaluates scope names) c.in_err-show-in-Show.ensures.reads)

pub returns-in_ok-show-in-Show-clause-answered : goal.returns-in_ok-show-in-Show-clause-answered
returns-in_ok-show-in-Show-clause-answered g c = λ scope names.
    let view = g.S.Store.view in
    let d = view.alphabet c.args.store.now in
    one_prints view g.met.S.Store.kin_onward d c.args.line scope (st.Show c.in-Show.e) c.in-Show.e AnswersShow (λ o h. h) refl (λ more e. e) c.args.statement.now c.args.store.now c.eval.new.store c.show.new.store c.args.charge.now c.eval.new.charge c.args.out.now.items c.show.new.out.items c.in_ok-h-in-Show.h c.in-Show.is
    c.in_ok-h-in-Show.ensures.continues.alphabet (c.in_ok-h-in-Show.ensures.evaluates scope names) c.in_ok-show-in-Show.ensures.reads c.in_ok-show-in-Show.ensures.text

pub eval-requires-in-States-clause-bound : goal.eval-requires-in-States-clause-bound
eval-requires-in-States-clause-bound g c = bound_above (g.S.Store.view.known c.args.store.now) (names_in c.args.env.now) c.args.line c.requires.known

pub returns-in_err-h-in-States-clause-answered : goal.returns-in_err-h-in-States-clause-answered
returns-in_err-h-in-States-clause-answered g c = λ scope names.
    let p = err_from_is_err_and c.from_residual-in_err-h-in-States.result c.from_residual-in_err-h-in-States.ensures.1 in
    let view = g.S.Store.view in
    let d = view.alphabet c.args.store.now in
    rw (p.1, p.2)
    (one_halts view g.met.S.Store.kin_onward d c.args.line scope (st.States c.in-States.e) c.in-States.e (AnswersStates d) (λ o h. h) refl c.args.statement.now c.args.store.now c.eval-in-States.new.store c.args.charge.now c.eval-in-States.new.charge c.args.out.now.items c.in_err-h-in-States.field-0.0 c.in-States.is
    (c.in_err-h-in-States.ensures.evaluates scope names))

pub returns-in_err-states-in-States-clause-answered : goal.returns-in_err-states-in-States-clause-answered
returns-in_err-states-in-States-clause-answered g c = λ scope names.
    let p = err_from_is_err_and c.from_residual-in_err-states-in-States.result c.from_residual-in_err-states-in-States.ensures.1 in
    let view = g.S.Store.view in
    let d = view.alphabet c.args.store.now in
    rw (p.1, p.2)
    (one_gives_up view g.met.S.Store.kin_onward d c.args.line scope (st.States c.in-States.e) c.in-States.e AnswersStates (λ o h. h) refl (λ more e. e) c.args.statement.now c.args.store.now c.eval-in-States.new.store c.states.new.store c.args.charge.now c.eval-in-States.new.charge c.args.out.now.items c.states.new.out.items c.in_ok-h-in-States.h c.in-States.is
    (c.in_ok-h-in-States.ensures.evaluates scope names) c.in_err-states-in-States.ensures.reads)

pub returns-in_ok-states-in-States-clause-answered : goal.returns-in_ok-states-in-States-clause-answered
returns-in_ok-states-in-States-clause-answered g c = λ scope names.
    let view = g.S.Store.view in
    let d = view.alphabet c.args.store.now in
    one_prints view g.met.S.Store.kin_onward d c.args.line scope (st.States c.in-States.e) c.in-States.e AnswersStates (λ o h. h) refl (λ more e. e) c.args.statement.now c.args.store.now c.eval-in-States.new.store c.states.new.store c.args.charge.now c.eval-in-States.new.charge c.args.out.now.items c.states.new.out.items c.in_ok-h-in-States.h c.in-States.is
    c.in_ok-h-in-States.ensures.continues.alphabet (c.in_ok-h-in-States.ensures.evaluates scope names) c.in_ok-states-in-States.ensures.reads c.in_ok-states-in-States.ensures.text

pub eval-requires-in-Wreath-clause-bound : goal.eval-requires-in-Wreath-clause-bound
eval-requires-in-Wreath-clause-bound g c = bound_above (g.S.Store.view.known c.args.store.now) (names_in c.args.env.now) c.args.line c.requires.known

pub returns-in_err-h-in-Wreath-clause-answered : goal.returns-in_err-h-in-Wreath-clause-answered
returns-in_err-h-in-Wreath-clause-answered g c = λ scope names.
    let p = err_from_is_err_and c.from_residual-in_err-h-in-Wreath.result c.from_residual-in_err-h-in-Wreath.ensures.1 in
    let view = g.S.Store.view in
    let d = view.alphabet c.args.store.now in
    rw (p.1, p.2)
    (one_halts view g.met.S.Store.kin_onward d c.args.line scope (st.Wreath c.in-Wreath.e) c.in-Wreath.e (AnswersWreath d) (λ o h. h) refl c.args.statement.now c.args.store.now c.eval-in-Wreath.new.store c.args.charge.now c.eval-in-Wreath.new.charge c.args.out.now.items c.in_err-h-in-Wreath.field-0.0 c.in-Wreath.is
    (c.in_err-h-in-Wreath.ensures.evaluates scope names))

pub returns-in_err-wreath-in-Wreath-clause-answered : goal.returns-in_err-wreath-in-Wreath-clause-answered
returns-in_err-wreath-in-Wreath-clause-answered g c = λ scope names.
    let p = err_from_is_err_and c.from_residual-in_err-wreath-in-Wreath.result c.from_residual-in_err-wreath-in-Wreath.ensures.1 in
    let view = g.S.Store.view in
    let d = view.alphabet c.args.store.now in
    rw (p.1, p.2)
    (one_gives_up view g.met.S.Store.kin_onward d c.args.line scope (st.Wreath c.in-Wreath.e) c.in-Wreath.e AnswersWreath (λ o h. h) refl (λ more e. e) c.args.statement.now c.args.store.now c.eval-in-Wreath.new.store c.wreath.new.store c.args.charge.now c.eval-in-Wreath.new.charge c.args.out.now.items c.wreath.new.out.items c.in_ok-h-in-Wreath.h c.in-Wreath.is
    (c.in_ok-h-in-Wreath.ensures.evaluates scope names) c.in_err-wreath-in-Wreath.ensures.reads)

pub returns-in_ok-wreath-in-Wreath-clause-answered : goal.returns-in_ok-wreath-in-Wreath-clause-answered
returns-in_ok-wreath-in-Wreath-clause-answered g c = λ scope names.
    let view = g.S.Store.view in
    let d = view.alphabet c.args.store.now in
    one_prints view g.met.S.Store.kin_onward d c.args.line scope (st.Wreath c.in-Wreath.e) c.in-Wreath.e AnswersWreath (λ o h. h) refl (λ more e. e) c.args.statement.now c.args.store.now c.eval-in-Wreath.new.store c.wreath.new.store c.args.charge.now c.eval-in-Wreath.new.charge c.args.out.now.items c.wreath.new.out.items c.in_ok-h-in-Wreath.h c.in-Wreath.is
    c.in_ok-h-in-Wreath.ensures.continues.alphabet (c.in_ok-h-in-Wreath.ensures.evaluates scope names) c.in_ok-wreath-in-Wreath.ensures.reads c.in_ok-wreath-in-Wreath.ensures.text

pub eval-requires-in-ClassOf-clause-bound : goal.eval-requires-in-ClassOf-clause-bound
eval-requires-in-ClassOf-clause-bound g c = bound_above (g.S.Store.view.known c.args.store.now) (names_in c.args.env.now) c.args.line c.requires.known

pub returns-in_err-h-in-ClassOf-clause-answered : goal.returns-in_err-h-in-ClassOf-clause-answered
returns-in_err-h-in-ClassOf-clause-answered g c = λ scope names.
    let p = err_from_is_err_and c.from_residual-in_err-h-in-ClassOf.result c.from_residual-in_err-h-in-ClassOf.ensures.1 in
    let view = g.S.Store.view in
    let d = view.alphabet c.args.store.now in
    rw (p.1, p.2)
    (one_halts view g.met.S.Store.kin_onward d c.args.line scope (st.ClassOf c.in-ClassOf.e) c.in-ClassOf.e (AnswersClass d) (λ o h. h) refl c.args.statement.now c.args.store.now c.eval-in-ClassOf.new.store c.args.charge.now c.eval-in-ClassOf.new.charge c.args.out.now.items c.in_err-h-in-ClassOf.field-0.0 c.in-ClassOf.is
    (c.in_err-h-in-ClassOf.ensures.evaluates scope names))

pub returns-in_err-growth-in-ClassOf-clause-answered : goal.returns-in_err-growth-in-ClassOf-clause-answered
returns-in_err-growth-in-ClassOf-clause-answered g c = λ scope names.
    let p = err_from_is_err_and c.from_residual-in_err-growth-in-ClassOf.result c.from_residual-in_err-growth-in-ClassOf.ensures.1 in
    let view = g.S.Store.view in
    let d = view.alphabet c.args.store.now in
    rw (p.1, p.2)
    (one_gives_up view g.met.S.Store.kin_onward d c.args.line scope (st.ClassOf c.in-ClassOf.e) c.in-ClassOf.e AnswersClass (λ o h. h) refl (λ more e. e) c.args.statement.now c.args.store.now c.eval-in-ClassOf.new.store c.growth.new.store c.args.charge.now c.eval-in-ClassOf.new.charge c.args.out.now.items c.growth.new.out.items c.in_ok-h-in-ClassOf.h c.in-ClassOf.is
    (c.in_ok-h-in-ClassOf.ensures.evaluates scope names) c.in_err-growth-in-ClassOf.ensures.reads)

pub returns-in_ok-growth-in-ClassOf-clause-answered : goal.returns-in_ok-growth-in-ClassOf-clause-answered
returns-in_ok-growth-in-ClassOf-clause-answered g c = λ scope names.
    let view = g.S.Store.view in
    let d = view.alphabet c.args.store.now in
    one_prints view g.met.S.Store.kin_onward d c.args.line scope (st.ClassOf c.in-ClassOf.e) c.in-ClassOf.e AnswersClass (λ o h. h) refl (λ more e. e) c.args.statement.now c.args.store.now c.eval-in-ClassOf.new.store c.growth.new.store c.args.charge.now c.eval-in-ClassOf.new.charge c.args.out.now.items c.growth.new.out.items c.in_ok-h-in-ClassOf.h c.in-ClassOf.is
    c.in_ok-h-in-ClassOf.ensures.continues.alphabet (c.in_ok-h-in-ClassOf.ensures.evaluates scope names) c.in_ok-growth-in-ClassOf.ensures.reads c.in_ok-growth-in-ClassOf.ensures.text

pub eval-requires-in-Act-clause-bound : goal.eval-requires-in-Act-clause-bound
eval-requires-in-Act-clause-bound g c = bound_above (g.S.Store.view.known c.args.store.now) (names_in c.args.env.now) c.args.line c.requires.known

pub returns-in_err-h-in-Act-clause-answered : goal.returns-in_err-h-in-Act-clause-answered
returns-in_err-h-in-Act-clause-answered g c = λ scope names.
    let p = err_from_is_err_and c.from_residual-in_err-h-in-Act.result c.from_residual-in_err-h-in-Act.ensures.1 in
    let view = g.S.Store.view in
    let d = view.alphabet c.args.store.now in
    rw (p.1, p.2)
    (one_halts view g.met.S.Store.kin_onward d c.args.line scope (st.Act c.in-Act.e c.in-Act.w) c.in-Act.e (λ t ending. AnswersAct t c.in-Act.w ending) (λ o h. h) refl c.args.statement.now c.args.store.now c.eval-in-Act.new.store c.args.charge.now c.eval-in-Act.new.charge c.args.out.now.items c.in_err-h-in-Act.field-0.0 c.in-Act.is
    (c.in_err-h-in-Act.ensures.evaluates scope names))

pub returns-in_err-image-in-Act-clause-answered : goal.returns-in_err-image-in-Act-clause-answered
returns-in_err-image-in-Act-clause-answered g c = λ scope names.
    let p = err_from_is_err_and c.from_residual-in_err-image-in-Act.result c.from_residual-in_err-image-in-Act.ensures.1 in
    let view = g.S.Store.view in
    let d = view.alphabet c.args.store.now in
    rw (p.1, p.2)
    (one_gives_up view g.met.S.Store.kin_onward d c.args.line scope (st.Act c.in-Act.e c.in-Act.w) c.in-Act.e (λ d t ending. AnswersAct t c.in-Act.w ending) (λ o h. h) refl (λ more e. e) c.args.statement.now c.args.store.now c.eval-in-Act.new.store c.image.new.store c.args.charge.now c.eval-in-Act.new.charge c.args.out.now.items c.image.new.out.items c.in_ok-h-in-Act.h c.in-Act.is
    (c.in_ok-h-in-Act.ensures.evaluates scope names) c.in_err-image-in-Act.ensures.reads)

pub returns-in_ok-image-in-Act-clause-answered : goal.returns-in_ok-image-in-Act-clause-answered
returns-in_ok-image-in-Act-clause-answered g c = λ scope names.
    let view = g.S.Store.view in
    let d = view.alphabet c.args.store.now in
    one_prints view g.met.S.Store.kin_onward d c.args.line scope (st.Act c.in-Act.e c.in-Act.w) c.in-Act.e (λ d t ending. AnswersAct t c.in-Act.w ending) (λ o h. h) refl (λ more e. e) c.args.statement.now c.args.store.now c.eval-in-Act.new.store c.image.new.store c.args.charge.now c.eval-in-Act.new.charge c.args.out.now.items c.image.new.out.items c.in_ok-h-in-Act.h c.in-Act.is
    c.in_ok-h-in-Act.ensures.continues.alphabet (c.in_ok-h-in-Act.ensures.evaluates scope names) c.in_ok-image-in-Act.ensures.reads c.in_ok-image-in-Act.ensures.text

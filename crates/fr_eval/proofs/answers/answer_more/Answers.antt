use Rattle.std.proofs.Common.{Err, Ok, ◌≡◌, List, [], refl, sym, ap, subst, arith}
use Rattle.std.proofs.lemmas.Result.{err_from_is_err_and}
use Rattle.fr_syntax.specs.Sizes.{statement_size}
use Rattle.fr_syntax.specs.declared.statement.Statement.TheVariants as st
use Rattle.fr_store.specs.declared.handle.Handle.{Handle}
use Rattle.fr_eval.specs.Generators.{StandForAll}
use Rattle.fr_syntax.specs.declared.tree.Expr.{Expr}
use Rattle.fr_plain.specs.Expansions.{expansions}
use Rattle.fr_eval.specs.Concluding.{EvaluatesAll}
use Rattle.fr_plain.specs.Answers.{AnswersRay, AnswersOrder}
use Rattle.fr_plain.specs.Beginnings.{AreFirstPowers}
use Rattle.fr_expr.specs.Tables.{names_in}
use Rattle.fr_eval.proofs.AskLaws.{bound_above, known_keeps, names_keep, one_halts, one_concludes, left_halts, right_halts, both_give_up, both_print, all_halt, all_conclude}
use Rattle.fr_eval.proofs.answers.answer_more.Goals as goal

pub eval-requires-clause-bound : goal.eval-requires-clause-bound
eval-requires-clause-bound g c = bound_above (g.S.Store.view.known c.args.store.now) (names_in c.args.env.now) c.args.line c.requires.known

pub eval-requires-in-RayOf-clause-bound : goal.eval-requires-in-RayOf-clause-bound
eval-requires-in-RayOf-clause-bound g c = bound_above (g.S.Store.view.known c.args.store.now) (names_in c.args.env.now) c.args.line c.requires.known

pub eval-requires-in-Order-clause-bound : goal.eval-requires-in-Order-clause-bound
eval-requires-in-Order-clause-bound g c = bound_above (g.S.Store.view.known c.args.store.now) (names_in c.args.env.now) c.args.line c.requires.known

pub eval-requires-in-Eq-clause-bound : goal.eval-requires-in-Eq-clause-bound
eval-requires-in-Eq-clause-bound g c =
    bound_above (g.S.Store.view.known c.eval.new.store) (names_in c.args.env.now) c.args.line
    (known_keeps (g.S.Store.view.known c.args.store.now) (g.S.Store.view.known c.eval.new.store) (names_in c.args.env.now) c.in_ok-a-in-Eq.ensures.keeps c.requires.known)

pub eval-requires-in-Eq-clause-room : goal.eval-requires-in-Eq-clause-room
eval-requires-in-Eq-clause-room g c = omega (arith, c.in_ok-a-in-Eq.ensures.most, c.requires.size, ap statement_size c.in-Eq.is, c.requires.charge)

pub returns-in_err-a-in-Eq-clause-answered : goal.returns-in_err-a-in-Eq-clause-answered
returns-in_err-a-in-Eq-clause-answered g c = λ scope names more.
    let p = err_from_is_err_and c.from_residual.result c.from_residual.ensures.1 in
    let view = g.S.Store.view in
    let d = view.alphabet c.args.store.now in
    rw (p.1, p.2)
    (left_halts view g.met.S.Store.kin_onward d c.args.line scope c.in-Eq.left c.in-Eq.right c.args.statement.now c.in-Eq.is c.args.store.now c.eval.new.store c.args.charge.now c.eval.new.charge c.args.out.now.items c.in_err-a-in-Eq.field-0.0
    (c.in_err-a-in-Eq.ensures.evaluates scope names))

pub returns-in_err-b-in-Eq-clause-answered : goal.returns-in_err-b-in-Eq-clause-answered
returns-in_err-b-in-Eq-clause-answered g c = λ scope names more.
    let p = err_from_is_err_and c.from_residual-in_err-b-in-Eq.result c.from_residual-in_err-b-in-Eq.ensures.1 in
    let view = g.S.Store.view in
    let d = view.alphabet c.args.store.now in
    let old = c.args.store.now in
    let mid = c.eval.new.store in
    let e = c.in_ok-a-in-Eq.ensures in
    rw (p.1, p.2)
    (right_halts view g.met.S.Store.kin_onward d c.args.line scope c.in-Eq.left c.in-Eq.right c.args.statement.now c.in-Eq.is old mid c.eval-in-Eq.new.store c.args.charge.now c.eval.new.charge c.eval-in-Eq.new.charge c.args.out.now.items c.in_ok-a-in-Eq.a c.in_err-b-in-Eq.field-0.0
    e.continues.alphabet (e.evaluates scope names) (c.in_err-b-in-Eq.ensures.evaluates scope (names_keep view old mid (names_in c.args.env.now) c.args.line scope e.continues e.keeps names)))

pub returns-in_err-compare-in-Eq-clause-answered : goal.returns-in_err-compare-in-Eq-clause-answered
returns-in_err-compare-in-Eq-clause-answered g c = λ scope names more.
    let p = err_from_is_err_and c.from_residual-in_err-compare-in-Eq.result c.from_residual-in_err-compare-in-Eq.ensures.1 in
    let view = g.S.Store.view in
    let d = view.alphabet c.args.store.now in
    let old = c.args.store.now in
    let mid = c.eval.new.store in
    let end = c.eval-in-Eq.new.store in
    let e = c.in_ok-a-in-Eq.ensures in
    let f = c.in_ok-b-in-Eq.ensures in
    rw (p.1, p.2)
    (both_give_up view g.met.S.Store.kin_onward d c.args.line scope c.in-Eq.left c.in-Eq.right c.args.statement.now c.in-Eq.is old mid end c.compare.new.store c.args.charge.now c.eval.new.charge c.eval-in-Eq.new.charge c.args.out.now.items c.compare.new.out.items c.in_ok-a-in-Eq.a c.in_ok-b-in-Eq.b
    e.continues.alphabet f.continues.alphabet (e.evaluates scope names) (f.evaluates scope (names_keep view old mid (names_in c.args.env.now) c.args.line scope e.continues e.keeps names)) c.in_err-compare-in-Eq.ensures.reads)

pub returns-in_ok-compare-in-Eq-clause-answered : goal.returns-in_ok-compare-in-Eq-clause-answered
returns-in_ok-compare-in-Eq-clause-answered g c = λ scope names more.
    let view = g.S.Store.view in
    let d = view.alphabet c.args.store.now in
    let old = c.args.store.now in
    let mid = c.eval.new.store in
    let end = c.eval-in-Eq.new.store in
    let e = c.in_ok-a-in-Eq.ensures in
    let f = c.in_ok-b-in-Eq.ensures in
    both_print view g.met.S.Store.kin_onward d c.args.line scope c.in-Eq.left c.in-Eq.right c.args.statement.now c.in-Eq.is old mid end c.compare.new.store c.args.charge.now c.eval.new.charge c.eval-in-Eq.new.charge c.args.out.now.items c.compare.new.out.items c.in_ok-a-in-Eq.a c.in_ok-b-in-Eq.b
    e.continues.alphabet f.continues.alphabet (e.evaluates scope names) (f.evaluates scope (names_keep view old mid (names_in c.args.env.now) c.args.line scope e.continues e.keeps names)) c.in_ok-compare-in-Eq.ensures.reads f.keeps c.in_ok-compare-in-Eq.ensures.text

pub returns-in_err-h-in-RayOf-clause-answered : goal.returns-in_err-h-in-RayOf-clause-answered
returns-in_err-h-in-RayOf-clause-answered g c = λ scope names more.
    let p = err_from_is_err_and c.from_residual-in_err-h-in-RayOf.result c.from_residual-in_err-h-in-RayOf.ensures.1 in
    let view = g.S.Store.view in
    let d = view.alphabet c.args.store.now in
    rw (p.1, p.2)
    (one_halts view g.met.S.Store.kin_onward d c.args.line scope (st.RayOf c.in-RayOf.e c.in-RayOf.ray) c.in-RayOf.e (λ t ending. AnswersRay d t (record { before = c.in-RayOf.ray.before; period = c.in-RayOf.ray.period }) ending) (λ o h. h) refl c.args.statement.now c.args.store.now c.eval-in-RayOf.new.store c.args.charge.now c.eval-in-RayOf.new.charge c.args.out.now.items c.in_err-h-in-RayOf.field-0.0 c.in-RayOf.is
    (c.in_err-h-in-RayOf.ensures.evaluates scope names))

pub returns-in_ok-h-in-RayOf-clause-answered : goal.returns-in_ok-h-in-RayOf-clause-answered
returns-in_ok-h-in-RayOf-clause-answered g c = λ scope names more.
    let view = g.S.Store.view in
    let d = view.alphabet c.args.store.now in
    let e = c.in_ok-h-in-RayOf.ensures in
    one_concludes view g.met.S.Store.kin_onward d c.args.line scope (st.RayOf c.in-RayOf.e c.in-RayOf.ray) c.in-RayOf.e (λ n t ending. AnswersRay n t (record { before = c.in-RayOf.ray.before; period = c.in-RayOf.ray.period }) ending) (λ n t more. more ≡ []) (λ o h. h) refl (λ more f. f) c.args.statement.now c.args.store.now c.eval-in-RayOf.new.store c.ray_image.new.store c.args.charge.now c.eval-in-RayOf.new.charge c.eval-in-RayOf.new.charge c.args.out.now.items c.ray_image.new.out.items c.in_ok-h-in-RayOf.h c.ray_image.result c.in-RayOf.is
    e.continues.alphabet (e.evaluates scope names) (λ t s. c.ray_image.ensures.concludes t c.eval-in-RayOf.new.charge s)

pub returns-in_err-h-in-Order-clause-answered : goal.returns-in_err-h-in-Order-clause-answered
returns-in_err-h-in-Order-clause-answered g c = λ scope names more.
    let p = err_from_is_err_and c.from_residual-in_err-h-in-Order.result c.from_residual-in_err-h-in-Order.ensures.1 in
    let view = g.S.Store.view in
    let d = view.alphabet c.args.store.now in
    rw (p.1, p.2)
    (one_halts view g.met.S.Store.kin_onward d c.args.line scope (st.Order c.in-Order.e c.in-Order.most) c.in-Order.e (λ t ending. AnswersOrder d t c.in-Order.most ending) (λ o h. h) refl c.args.statement.now c.args.store.now c.eval-in-Order.new.store c.args.charge.now c.eval-in-Order.new.charge c.args.out.now.items c.in_err-h-in-Order.field-0.0 c.in-Order.is
    (c.in_err-h-in-Order.ensures.evaluates scope names))

pub returns-in_ok-h-in-Order-clause-answered : goal.returns-in_ok-h-in-Order-clause-answered
returns-in_ok-h-in-Order-clause-answered g c = λ scope names more.
    let view = g.S.Store.view in
    let d = view.alphabet c.args.store.now in
    let e = c.in_ok-h-in-Order.ensures in
    one_concludes view g.met.S.Store.kin_onward d c.args.line scope (st.Order c.in-Order.e c.in-Order.most) c.in-Order.e (λ n t ending. AnswersOrder n t c.in-Order.most ending) (λ n t more. AreFirstPowers n t c.in-Order.most more) (λ o h. h) refl (λ more f. f) c.args.statement.now c.args.store.now c.eval-in-Order.new.store c.order.new.store c.args.charge.now c.eval-in-Order.new.charge c.order.new.charge c.args.out.now.items c.order.new.out.items c.in_ok-h-in-Order.h c.order.result c.in-Order.is
    e.continues.alphabet (e.evaluates scope names) c.order.ensures.concludes

pub returns-in_err-gens-in-NucleusOf-clause-answered : goal.returns-in_err-gens-in-NucleusOf-clause-answered
returns-in_err-gens-in-NucleusOf-clause-answered g c = λ scope names more.
    let p = err_from_is_err_and c.from_residual-in_err-gens-in-NucleusOf.result c.from_residual-in_err-gens-in-NucleusOf.ensures.1 in
    let view = g.S.Store.view in
    let d = view.alphabet c.args.store.now in
    rw (p.1, p.2)
    (all_halt view g.met.S.Store.kin_onward d c.args.line scope c.in-NucleusOf.es c.args.statement.now c.in-NucleusOf.is c.args.store.now c.eval_all.new.store c.args.charge.now c.eval_all.new.charge c.args.out.now.items c.in_err-gens-in-NucleusOf.field-0.0
    (subst (λ (es : List Expr). EvaluatesAll view d c.args.store.now c.eval_all.new.store c.args.charge.now c.eval_all.new.charge (expansions scope es) (Err c.in_err-gens-in-NucleusOf.field-0.0)) c.as_slice.ensures (c.in_err-gens-in-NucleusOf.ensures.evaluates scope names)))

pub returns-in_ok-gens-in-NucleusOf-clause-answered : goal.returns-in_ok-gens-in-NucleusOf-clause-answered
returns-in_ok-gens-in-NucleusOf-clause-answered g c = λ scope names more.
    let view = g.S.Store.view in
    let d = view.alphabet c.args.store.now in
    let e = c.in_ok-gens-in-NucleusOf.ensures in
    all_conclude view g.met.S.Store.kin_onward d c.args.line scope c.in-NucleusOf.es c.args.statement.now c.in-NucleusOf.is c.args.store.now c.eval_all.new.store c.nucleus_of.new.store c.args.charge.now c.eval_all.new.charge c.nucleus_of.new.charge c.args.out.now.items c.nucleus_of.new.out.items c.in_ok-gens-in-NucleusOf.gens c.nucleus_of.result
    e.continues.alphabet (subst (λ (es : List Expr). EvaluatesAll view d c.args.store.now c.eval_all.new.store c.args.charge.now c.eval_all.new.charge (expansions scope es) (Ok c.in_ok-gens-in-NucleusOf.gens)) c.as_slice.ensures (e.evaluates scope names)) (λ ts st. c.nucleus_of.ensures.concludes ts (subst (λ (hs : List Handle). StandForAll (view.alphabet c.eval_all.new.store) (view.known c.eval_all.new.store) hs ts) (sym c.deref.ensures.value) st))

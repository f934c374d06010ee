use Rattle.std.proofs.Common.{ℕ, suc, ◌≡◌, ◌+◌, ◌∷◌, [], ◌++◌, List, length, take, drop, get_or, refl, sym, ◌∙◌, ap, subst, arith, append_assoc, Ok, Err}
use Rattle.std.specs.List.{All}
use Rattle.std.proofs.lemmas.List.{length_push}
use Rattle.std.proofs.lemmas.List.Elements.{All-push}
use Rattle.std.proofs.lemmas.Result.{err_from_is_err_and}
use Rattle.fr_syntax.specs.declared.tree.Expr.{Expr}
use Rattle.fr_syntax.specs.Fits.{FitsExpr}
use Rattle.fr_syntax.specs.Sizes.{expr_size, exprs_size}
use Rattle.fr_store.specs.declared.handle.Handle.{Handle}
use Rattle.fr_store.specs.Store.{IsKnown, StandsForTerm}
use Rattle.fr_store.proofs.StoreLaws.{IsKnown-keeps, Keeps-trans, Continues-trans}
use Rattle.fr_plain.specs.Scopes.{Scope}
use Rattle.fr_plain.specs.Steps.{Step}
use Rattle.fr_plain.specs.Expansions.{expansion, expansions, steps_of_all, values_of_all}
use Rattle.fr_expr.specs.Evaluation.{Makes, Evaluates}
use Rattle.fr_expr.specs.Names.{AreNames}
use Rattle.fr_expr.specs.Tables.{names_in}
use Rattle.fr_expr.proofs.EvaluationLaws.{Makes-trans, Makes-none, Reads-none}
use Rattle.fr_eval.specs.Generators.{StandForAll}
use Rattle.fr_eval.proofs.ConcludingLaws.{Halts, evaluates_halts}
use Rattle.fr_eval.proofs.AskLaws.{bound_above, known_keeps, names_keep}
use Rattle.fr_eval.proofs.ListLaws.{fits_at, steps_split, steps_more, StandForAll-more, StandForAll-keeps, exprs_size-more, exprs_size-le, halts_behind, halts_before, halts_all}
use Rattle.fr_eval.proofs.answers.eval_all.Goals as goal

pub returns-in_err-handles-clause-evaluates : goal.returns-in_err-handles-clause-evaluates
returns-in_err-handles-clause-evaluates g c = λ scope names.
    let p = err_from_is_err_and c.from_residual.result c.from_residual.ensures.1 in
    let view = g.S.Store.view in
    let old = c.args.store.now in
    rw (p.1, p.2) (record { done = []; rest = steps_of_all (expansions scope c.args.es.now); all = refl; makes = Makes-none view g.met.S.Store.kin_onward (view.alphabet old) old old c.args.charge.now (Reads-none view g.met.S.Store.kin_to_self old) })

pub eval-requires-clause-fits : goal.eval-requires-clause-fits
eval-requires-clause-fits g c =
    let view = g.S.Store.view in
    let e = c.e-item.result in
    subst (λ (d : ℕ). FitsExpr d e) (sym c.loop-e.invariant.continues.alphabet) (subst (FitsExpr (view.alphabet c.args.store.now)) (sym c.e-item.is) (fits_at (view.alphabet c.args.store.now) c.args.es.now c.loop-e.e-index e c.loop-e-test.true c.requires.fits))

pub eval-requires-clause-bound : goal.eval-requires-clause-bound
eval-requires-clause-bound g c =
    let view = g.S.Store.view in
    bound_above (view.known c.loop-e.store) (names_in c.args.env.now) c.args.line (known_keeps (view.known c.args.store.now) (view.known c.loop-e.store) (names_in c.args.env.now) c.loop-e.invariant.keeps c.requires.known)

pub eval-requires-clause-room : goal.eval-requires-clause-room
eval-requires-clause-room g c =
    let es = c.args.es.now in
    let i = c.loop-e.e-index in
    let e = c.e-item.result in
    omega (arith, c.loop-e.invariant.charged, c.requires.charge, c.requires.size, exprs_size-more es i e c.loop-e-test.true, exprs_size-le es (suc i), ap expr_size c.e-item.is)

pub returns-in_err-eval-clause-evaluates : goal.returns-in_err-eval-clause-evaluates
returns-in_err-eval-clause-evaluates g c = λ scope names.
    let p = err_from_is_err_and c.from_residual-in_err-eval.result c.from_residual-in_err-eval.ensures.1 in
    let view = g.S.Store.view in
    let on = g.met.S.Store.kin_onward in
    let old = c.args.store.now in
    let mid = c.loop-e.store in
    let new = c.eval.new.store in
    let d = view.alphabet old in
    let es = c.args.es.now in
    let i = c.loop-e.e-index in
    let e = c.e-item.result in
    let inv = c.loop-e.invariant in
    let fault = c.in_err-eval.field-0.0 in
    let first = steps_of_all (expansions scope (take i es)) in
    let rest = steps_of_all (expansions scope (drop (suc i) es)) in
    let v = subst (λ (n : ℕ). Evaluates view n mid new c.loop-e.charge c.eval.new.charge (expansion scope e) (Err fault)) inv.continues.alphabet (c.in_err-eval.ensures.evaluates scope (names_keep view old mid (names_in c.args.env.now) c.args.line scope inv.continues inv.keeps names)) in
    let h = halts_before view on d old new c.args.charge.now c.eval.new.charge (first ++ (expansion scope e).steps) rest fault
    (halts_behind view on d old mid new c.args.charge.now c.loop-e.charge c.eval.new.charge first (expansion scope e).steps fault (inv.makes scope names) (evaluates_halts view d mid new c.loop-e.charge c.eval.new.charge (expansion scope e) fault v)) in
    let all : (first ++ (expansion scope e).steps) ++ rest ≡ steps_of_all (expansions scope es) = append_assoc first (expansion scope e).steps rest ∙ ap (λ x. first ++ ((expansion scope x).steps ++ rest)) c.e-item.is ∙ sym (steps_split scope es i e c.loop-e-test.true) in
    rw (p.1, p.2) (halts_all view on d old new c.args.charge.now c.eval.new.charge (expansions scope es) fault (subst (λ (ss : List Step). Halts view d old new c.args.charge.now c.eval.new.charge ss fault) all h))

pub returns-in_err-eval-clause-most : goal.returns-in_err-eval-clause-most
returns-in_err-eval-clause-most g c =
    let es = c.args.es.now in
    let i = c.loop-e.e-index in
    let e = c.e-item.result in
    omega (arith, c.loop-e.invariant.charged, c.in_err-eval.ensures.most, c.requires.size, exprs_size-more es i e c.loop-e-test.true, exprs_size-le es (suc i), ap expr_size c.e-item.is)

pub returns-in_err-push-clause-evaluates : goal.returns-in_err-push-clause-evaluates
returns-in_err-push-clause-evaluates g c = λ scope names.
    let p = err_from_is_err_and c.from_residual-in_err-push.result c.from_residual-in_err-push.ensures.1 in
    let view = g.S.Store.view in
    let on = g.met.S.Store.kin_onward in
    let old = c.args.store.now in
    let mid = c.loop-e.store in
    let new = c.eval.new.store in
    let d = view.alphabet old in
    let es = c.args.es.now in
    let i = c.loop-e.e-index in
    let e = c.e-item.result in
    let inv = c.loop-e.invariant in
    let first = steps_of_all (expansions scope (take i es)) in
    let rest = steps_of_all (expansions scope (drop (suc i) es)) in
    let v = subst (λ (n : ℕ). Evaluates view n mid new c.loop-e.charge c.eval.new.charge (expansion scope e) (Ok c.in_ok-eval.field-0)) inv.continues.alphabet (c.in_ok-eval.ensures.evaluates scope (names_keep view old mid (names_in c.args.env.now) c.args.line scope inv.continues inv.keeps names)) in
    let all : steps_of_all (expansions scope es) ≡ (first ++ (expansion scope e).steps) ++ rest = steps_split scope es i e c.loop-e-test.true ∙ ap (λ x. first ++ ((expansion scope x).steps ++ rest)) (sym c.e-item.is) ∙ sym (append_assoc first (expansion scope e).steps rest) in
    rw (p.1, p.2) (record { done = first ++ (expansion scope e).steps; rest = rest; all = all; makes = Makes-trans view on d old mid new c.args.charge.now c.loop-e.charge c.eval.new.charge first (expansion scope e).steps (inv.makes scope names) v.makes })

pub returns-in_err-push-clause-most : goal.returns-in_err-push-clause-most
returns-in_err-push-clause-most g c =
    let es = c.args.es.now in
    let i = c.loop-e.e-index in
    let e = c.e-item.result in
    omega (arith, c.loop-e.invariant.charged, c.in_ok-eval.ensures.most, c.requires.size, exprs_size-more es i e c.loop-e-test.true, exprs_size-le es (suc i), ap expr_size c.e-item.is)

pub loop-e-preserved : goal.loop-e-preserved
loop-e-preserved g c =
    let view = g.S.Store.view in
    let on = g.met.S.Store.kin_onward in
    let old = c.args.store.now in
    let mid = c.loop-e.store in
    let new = c.eval.new.store in
    let d = view.alphabet old in
    let es = c.args.es.now in
    let i = c.loop-e.e-index in
    let e = c.e-item.result in
    let h = c.in_ok-eval.field-0 in
    let hs = c.loop-e.handles.items in
    let inv = c.loop-e.invariant in
    let ok = c.in_ok-eval.ensures in
    let items = c.in_ok-push.ensures.items in
    let next : suc i ≡ i + 1 = omega arith in
    let evaluated = λ (scope : Scope) (names : AreNames d (view.known old) (names_in c.args.env.now) c.args.line scope).
    subst (λ (n : ℕ). Evaluates view n mid new c.loop-e.charge c.eval.new.charge (expansion scope e) (Ok h)) inv.continues.alphabet (ok.evaluates scope (names_keep view old mid (names_in c.args.env.now) c.args.line scope inv.continues inv.keeps names)) in
    record {
      known = subst (λ (l : List Handle). All (IsKnown (view.known new)) l) (sym items) (All-push (IsKnown (view.known new)) hs h (λ j z l. IsKnown-keeps (view.known mid) (view.known new) (get_or hs j z) ok.keeps (inv.known j z l)) ok.known);
      count = ap length items ∙ length_push hs h ∙ ap (λ n. n + 1) inv.count;
      keeps = Keeps-trans (view.known old) (view.known mid) (view.known new) inv.keeps ok.keeps;
      continues = Continues-trans view on old mid new inv.continues ok.continues;
      charged = omega (arith, inv.charged, ok.most, exprs_size-more es i e c.loop-e-test.true, ap expr_size c.e-item.is, ap (λ n. exprs_size (take n es)) next);
      stand = λ scope names.
          let v = evaluated scope names in
          let P : Expr → Type 0 = λ (x : Expr). StandsForTerm d (view.known new) h (expansion scope x).value in
          let kept = StandForAll-keeps d (view.known mid) (view.known new) hs (values_of_all (expansions scope (take i es))) ok.keeps (inv.stand scope names) in
          let more = StandForAll-more d (view.known new) scope es i e hs h c.loop-e-test.true kept (subst P c.e-item.is v.handle) in
          subst (λ (l : List Handle). StandForAll d (view.known new) l (values_of_all (expansions scope (take (i + 1) es)))) (sym items) (subst (λ (n : ℕ). StandForAll d (view.known new) (hs ++ h ∷ []) (values_of_all (expansions scope (take n es)))) next more);
      makes = λ scope names.
          let v = evaluated scope names in
          let first = steps_of_all (expansions scope (take i es)) in
          let joined = Makes-trans view on d old mid new c.args.charge.now c.loop-e.charge c.eval.new.charge first (expansion scope e).steps (inv.makes scope names) v.makes in
          let all : first ++ (expansion scope e).steps ≡ steps_of_all (expansions scope (take (i + 1) es)) = ap (λ x. first ++ (expansion scope x).steps) c.e-item.is ∙ sym (steps_more scope es i e c.loop-e-test.true) ∙ ap (λ n. steps_of_all (expansions scope (take n es))) next in
          subst (λ (ss : List Step). Makes view d old new c.args.charge.now c.eval.new.charge ss) all joined;
    }

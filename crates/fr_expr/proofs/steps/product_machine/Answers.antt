use Rattle.std.proofs.Common.{subst, sym, ◌∙◌, ap, length, ℕ, Err}
use Rattle.std.proofs.lemmas.Result.{err_from_is_err_and}
use Rattle.fr_model.specs.Classes.{HasMorePairs, HasMoreStates, IsPairCount, IsSize}
use Rattle.fr_product.specs.declared.pairs.ProductFault.{ProductFault}
use Rattle.fr_minimal.specs.declared.smallest.MinFault.{MinFault}
use Rattle.fr_machine.specs.Rows.{row_term}
use Rattle.fr_store.specs.Store.{StandsForTerm}
use Rattle.fr_store.proofs.StoreLaws.{stands_same}
use Rattle.fr_expr.proofs.ProductLaws.{product_refused, states_refused, product_charged, product_alike}
use Rattle.fr_expr.proofs.steps.product_machine.Goals as goal

pub returns-in_err-pairs-clause-multiplies : goal.returns-in_err-pairs-clause-multiplies
returns-in_err-pairs-clause-multiplies g c = λ t u x y.
    let p = err_from_is_err_and c.from_residual-in_err-pairs.result c.from_residual-in_err-pairs.ensures.1 in
    let view = g.S.Store.view in
    let y' : StandsForTerm (view.alphabet c.machine.new.self) (view.known c.machine.new.self) c.args.b u =
    subst (λ (k : ℕ). StandsForTerm k (view.known c.machine.new.self) c.args.b u) (sym c.in_ok-m.ensures.reads.continues.alphabet)
    (stands_same (view.alphabet c.args.store.now) (view.known c.args.store.now) (view.known c.machine.new.self) c.args.b u c.in_ok-m.ensures.reads.known y) in
    rw (p.1, p.2)
    (product_refused (view.alphabet c.args.store.now) t u _ _ (c.in_ok-m.ensures.alike t x) (c.in_ok-n.ensures.alike u y') c.in_err-pairs.field-0.0
    (λ e. subst (λ (k : ℕ). HasMorePairs k (row_term c.in_ok-m.m.rows 0) (row_term c.in_ok-n.n.rows 0) 65536) c.in_ok-m.ensures.alphabet (c.in_err-pairs.ensures.passed (ap (λ (z : ProductFault). Err z) e))))

pub returns-in_err-q-clause-multiplies : goal.returns-in_err-q-clause-multiplies
returns-in_err-q-clause-multiplies g c = λ t u x y.
    let p = err_from_is_err_and c.from_residual-in_err-q.result c.from_residual-in_err-q.ensures.1 in
    let view = g.S.Store.view in
    let y' : StandsForTerm (view.alphabet c.machine.new.self) (view.known c.machine.new.self) c.args.b u =
    subst (λ (k : ℕ). StandsForTerm k (view.known c.machine.new.self) c.args.b u) (sym c.in_ok-m.ensures.reads.continues.alphabet)
    (stands_same (view.alphabet c.args.store.now) (view.known c.args.store.now) (view.known c.machine.new.self) c.args.b u c.in_ok-m.ensures.reads.known y) in
    let made = c.in_ok-pairs.ensures.ok in
    rw (p.1, p.2)
    (states_refused (view.alphabet c.args.store.now) t u _ _ (c.in_ok-m.ensures.alike t x) (c.in_ok-n.ensures.alike u y') _ _ c.in_err-q.field-0.0 c.rows-rows.ensures.valid.most
    (subst (λ (k : ℕ). IsPairCount k (row_term c.in_ok-m.m.rows 0) (row_term c.in_ok-n.n.rows 0) (length c.in_ok-pairs.pairs.rows)) c.in_ok-m.ensures.alphabet made.count) made.alike
    (λ e. subst (λ (k : ℕ). HasMoreStates k (row_term c.in_ok-pairs.pairs.rows 0) 1024) (c.in_ok-pairs.ensures.alphabet ∙ c.in_ok-m.ensures.alphabet) (c.in_err-q.ensures.passed (ap (λ (z : MinFault). Err z) e))))

pub returns-clause-multiplies : goal.returns-clause-multiplies
returns-clause-multiplies g c = λ t u x y.
    let view = g.S.Store.view in
    let d = view.alphabet c.args.store.now in
    let y' : StandsForTerm (view.alphabet c.machine.new.self) (view.known c.machine.new.self) c.args.b u =
    subst (λ (k : ℕ). StandsForTerm k (view.known c.machine.new.self) c.args.b u) (sym c.in_ok-m.ensures.reads.continues.alphabet)
    (stands_same d (view.known c.args.store.now) (view.known c.machine.new.self) c.args.b u c.in_ok-m.ensures.reads.known y) in
    let made = c.in_ok-pairs.ensures.ok in
    let over = c.in_ok-pairs.ensures.alphabet ∙ c.in_ok-m.ensures.alphabet in (
      product_charged d t u _ _ (c.in_ok-m.ensures.alike t x) (c.in_ok-n.ensures.alike u y') _ _ _ c.rows-rows.ensures.valid.most
          (subst (λ (k : ℕ). IsPairCount k (row_term c.in_ok-m.m.rows 0) (row_term c.in_ok-n.n.rows 0) (length c.in_ok-pairs.pairs.rows)) c.in_ok-m.ensures.alphabet made.count) made.alike
          (subst (λ (k : ℕ). IsSize k (row_term c.in_ok-pairs.pairs.rows 0) (length c.in_ok-q.q.rows)) over c.in_ok-q.ensures.ok.size)
          (λ more. c.in_ok-q.ensures.within (subst (λ (k : ℕ). HasMoreStates k (row_term c.in_ok-pairs.pairs.rows 0) 1024) (sym over) more)),
      product_alike d t u _ _ (c.in_ok-m.ensures.alike t x) (c.in_ok-n.ensures.alike u y') _ _ c.in_ok-q.ensures.ok.alike made.alike,
    )

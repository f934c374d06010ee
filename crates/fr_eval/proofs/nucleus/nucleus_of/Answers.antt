use Rattle.std.proofs.Common.{ℕ, ◌≡◌, List, length, map, sym, ◌∙◌, ap, subst, arith, Err}
use Rattle.std.proofs.lemmas.Result.{err_from_is_err_and}
use Rattle.fr_machine.specs.Machine.{MachineView}
use Rattle.fr_nucleus.specs.Elements.{elements_of, AreOver}
use Rattle.fr_plain.specs.Steps.{Listed}
use Rattle.fr_plain.specs.Answers.{AnswersNucleus}
use Rattle.fr_plain.specs.Beginnings.{AreFirstMembers}
use Rattle.fr_expr.specs.declared.fault.EvalFault.{EvalFault}
use Rattle.fr_expr.specs.Evaluation.{Makes}
use Rattle.fr_eval.specs.Concluding.{Concludes, MakesAll}
use Rattle.fr_eval.specs.Generators.{AreAlikeTerms}
use Rattle.fr_eval.proofs.NucleusLaws.{alphabet_is, nucleus_refused, nucleus_halts, nucleus_gives_up, nucleus_found}
use Rattle.fr_eval.proofs.nucleus.nucleus_of.Goals as goal

pub returns-in-Err-clause-concludes : goal.returns-in-Err-clause-concludes
returns-in-Err-clause-concludes g c = λ ts st.
    let view = g.S.Store.view in
    let on = g.met.S.Store.kin_onward in
    let old = c.args.store.now in
    let mid = c.machines_of.new.store in
    let d = view.alphabet old in
    let ms = c.deref.result.now in
    let e : ms ≡ c.in_ok-machines.machines.items = c.deref.ensures.value in
    let made = c.in_ok-machines.ensures in
    let over = alphabet_is d ms (omega (arith, ap length e, made.count, c.requires.some)) (subst (λ (l : List MachineView). AreOver d l) (sym e) made.over) in
    let same = subst (λ (l : List MachineView). AreAlikeTerms d (elements_of l) ts) (sym e) (made.machines ts st) in
    subst (λ (q : EvalFault). Concludes view d (λ e. AnswersNucleus d ts e) (λ more. AreFirstMembers d ts more) old mid c.args.charge.now c.args.charge.now c.args.out.now.items c.args.out.now.items (Err q)) (sym c.eval_fault.ensures)
    (nucleus_refused view on d ms ts over same old mid c.args.charge.now c.args.out.now.items c.in-Err.fault made.reads c.in-Err.ensures.err)

pub returns-in_err-enter_members-clause-concludes : goal.returns-in_err-enter_members-clause-concludes
returns-in_err-enter_members-clause-concludes g c = λ ts st.
    let p = err_from_is_err_and c.from_residual-in_err-enter_members.result c.from_residual-in_err-enter_members.ensures.1 in
    let view = g.S.Store.view in
    let on = g.met.S.Store.kin_onward in
    let old = c.args.store.now in
    let mid = c.machines_of.new.store in
    let d = view.alphabet old in
    let ms = c.deref.result.now in
    let e : ms ≡ c.in_ok-machines.machines.items = c.deref.ensures.value in
    let made = c.in_ok-machines.ensures in
    let over = alphabet_is d ms (omega (arith, ap length e, made.count, c.requires.some)) (subst (λ (l : List MachineView). AreOver d l) (sym e) made.over) in
    let same = subst (λ (l : List MachineView). AreAlikeTerms d (elements_of l) ts) (sym e) (made.machines ts st) in
    let new = c.enter_members.new.store in
    let f = c.in-Ok.ensures in
    let ns = c.in-Ok.found.members in
    let listed : c.deref-2.result.now ≡ ns = c.deref-2.ensures.value ∙ ap (λ n. n.members) c.found.view_is in
    let fault = c.in_err-enter_members.field-0.0 in
    let made_all = subst (λ (k : ℕ). MakesAll view k mid new c.args.charge.now c.enter_members.new.charge (map Listed (elements_of ns)) (Err fault)) made.reads.continues.alphabet
    (subst (λ (l : List MachineView). MakesAll view (view.alphabet mid) mid new c.args.charge.now c.enter_members.new.charge (map Listed (elements_of l)) (Err fault)) listed c.in_err-enter_members.ensures.makes) in
    rw (p.1, p.2) (nucleus_halts view on d ms ts over same ns c.in-Ok.found.depth f.members f.canonical f.order f.sections f.few f.depth old mid new c.args.charge.now c.enter_members.new.charge c.args.out.now.items made.reads fault made_all)

pub returns-in_err-push_nucleus-clause-concludes : goal.returns-in_err-push_nucleus-clause-concludes
returns-in_err-push_nucleus-clause-concludes g c = λ ts st.
    let p = err_from_is_err_and c.from_residual-in_err-push_nucleus.result c.from_residual-in_err-push_nucleus.ensures.1 in
    let view = g.S.Store.view in
    let on = g.met.S.Store.kin_onward in
    let old = c.args.store.now in
    let mid = c.machines_of.new.store in
    let d = view.alphabet old in
    let ms = c.deref.result.now in
    let e : ms ≡ c.in_ok-machines.machines.items = c.deref.ensures.value in
    let made = c.in_ok-machines.ensures in
    let over = alphabet_is d ms (omega (arith, ap length e, made.count, c.requires.some)) (subst (λ (l : List MachineView). AreOver d l) (sym e) made.over) in
    let same = subst (λ (l : List MachineView). AreAlikeTerms d (elements_of l) ts) (sym e) (made.machines ts st) in
    let new = c.enter_members.new.store in
    let f = c.in-Ok.ensures in
    let ns = c.in-Ok.found.members in
    let listed : c.deref-2.result.now ≡ ns = c.deref-2.ensures.value ∙ ap (λ n. n.members) c.found.view_is in
    let made_all = subst (λ (k : ℕ). Makes view k mid new c.args.charge.now c.enter_members.new.charge (map Listed (elements_of ns))) made.reads.continues.alphabet
    (subst (λ (l : List MachineView). Makes view (view.alphabet mid) mid new c.args.charge.now c.enter_members.new.charge (map Listed (elements_of l))) listed c.in_ok-enter_members.ensures.makes) in
    rw (p.1, p.2) (nucleus_gives_up view on d ms ts over same ns c.in-Ok.found.depth f.members f.canonical f.order f.sections f.few f.depth old mid new c.args.charge.now c.enter_members.new.charge c.args.out.now.items made.reads c.push_nucleus.new.out.items made_all)

pub returns-clause-concludes : goal.returns-clause-concludes
returns-clause-concludes g c = λ ts st.
    let view = g.S.Store.view in
    let on = g.met.S.Store.kin_onward in
    let old = c.args.store.now in
    let mid = c.machines_of.new.store in
    let d = view.alphabet old in
    let ms = c.deref.result.now in
    let e : ms ≡ c.in_ok-machines.machines.items = c.deref.ensures.value in
    let made = c.in_ok-machines.ensures in
    let over = alphabet_is d ms (omega (arith, ap length e, made.count, c.requires.some)) (subst (λ (l : List MachineView). AreOver d l) (sym e) made.over) in
    let same = subst (λ (l : List MachineView). AreAlikeTerms d (elements_of l) ts) (sym e) (made.machines ts st) in
    let new = c.enter_members.new.store in
    let f = c.in-Ok.ensures in
    let ns = c.in-Ok.found.members in
    let listed : c.deref-2.result.now ≡ ns = c.deref-2.ensures.value ∙ ap (λ n. n.members) c.found.view_is in
    let made_all = subst (λ (k : ℕ). Makes view k mid new c.args.charge.now c.enter_members.new.charge (map Listed (elements_of ns))) made.reads.continues.alphabet
    (subst (λ (l : List MachineView). Makes view (view.alphabet mid) mid new c.args.charge.now c.enter_members.new.charge (map Listed (elements_of l))) listed c.in_ok-enter_members.ensures.makes) in
    nucleus_found view on d ms ts over same ns c.in-Ok.found.depth f.members f.canonical f.order f.sections f.few f.depth old mid new c.args.charge.now c.enter_members.new.charge c.args.out.now.items made.reads c.push_nucleus.new.out.items made_all c.in_ok-push_nucleus.ensures

use Rattle.std.proofs.Common.{ℕ, suc, ◌≡◌, ◌+◌, ◌∷◌, [], ◌++◌, List, length, take, get_or, sym, ◌∙◌, ap, subst, arith}
use Rattle.std.specs.List.{All}
use Rattle.std.proofs.lemmas.List.{length_push, map-append}
use Rattle.std.proofs.lemmas.List.Elements.{All-push}
use Rattle.fr_model.specs.Terms.{Term, IsTerm}
use Rattle.fr_machine.specs.Machine.{MachineView}
use Rattle.fr_machine.specs.Rows.{row_term}
use Rattle.fr_machine.proofs.RowLaws.{IsTerm-row_term}
use Rattle.fr_nucleus.specs.Elements.{element_of, elements_of}
use Rattle.fr_store.specs.declared.handle.Handle.{Handle}
use Rattle.fr_store.specs.Store.{Stands}
use Rattle.fr_store.proofs.StoreLaws.{Keeps-same, Reads-trans}
use Rattle.fr_expr.proofs.EvaluationLaws.{carries}
use Rattle.fr_eval.specs.Generators.{StandForAll, AreAlikeTerms}
use Rattle.fr_eval.proofs.GeneratorLaws.{AreAlikeTerms-push, stand_split}
use Rattle.fr_eval.proofs.nucleus.machines_of.Goals as goal

pub loop-h-preserved : goal.loop-h-preserved
loop-h-preserved g c =
    let view = g.S.Store.view in
    let old = c.args.store.now in
    let mid = c.loop-h.store in
    let new = c.machine.new.self in
    let d = view.alphabet old in
    let m = c.in_ok-m.m in
    let inv = c.loop-h.invariant in
    let e = c.in_ok-m.ensures in
    let over : m.alphabet ≡ d = e.alphabet ∙ inv.reads.continues.alphabet in
    let ms = c.loop-h.machines.items in
    let items = c.in_ok-push.ensures.items in
    let valid = c.machine-machine.ensures.valid.machine in
    record {
      reads = Reads-trans view g.met.S.Store.kin_onward old mid new inv.reads e.reads;
      count = ap length items ∙ length_push ms m ∙ ap (λ n. n + 1) inv.count;
      over = subst (λ (l : List MachineView). All (λ (n : MachineView). n.alphabet ≡ d) l) (sym items) (All-push (λ (n : MachineView). n.alphabet ≡ d) ms m inv.over over);
      machines = λ ts st.
          let n : c.loop-h.h-index + 1 ≡ suc c.loop-h.h-index = omega arith in
          let z : Handle = record { node = 0 } in
          let h = get_or c.args.handles.now c.loop-h.h-index z in
          let r = stand_split d (view.known old) c.args.handles.now c.loop-h.h-index z ts c.loop-h-test.true (subst (λ (k : ℕ). StandForAll d (view.known old) (take k c.args.handles.now) ts) n st) in
          let there : Stands view mid h r.last = carries view old mid h r.last inv.reads.continues (Keeps-same (view.known old) (view.known mid) inv.reads.known) r.stands in
          let term : IsTerm d (row_term m.rows 0) = subst (λ (k : ℕ). IsTerm k (row_term m.rows 0)) over (IsTerm-row_term m.alphabet m.rows 0 valid valid.least) in
          let pushed = AreAlikeTerms-push d (elements_of ms) r.before (element_of m) r.last (inv.machines r.before r.first) term r.stands.term (e.alike r.last there) in
          let list : elements_of c.push.new.self.items ≡ elements_of ms ++ element_of m ∷ [] = ap elements_of items ∙ map-append element_of ms (m ∷ []) in
          subst (λ (us : List Term). AreAlikeTerms d (elements_of c.push.new.self.items) us) (sym r.all) (subst (λ (gs : List Term). AreAlikeTerms d gs (r.before ++ r.last ∷ [])) (sym list) pushed);
    }

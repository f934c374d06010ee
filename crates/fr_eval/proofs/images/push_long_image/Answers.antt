use Rattle.std.proofs.Common.{ℕ, ◌≡◌, ◌∷◌, [], ◌++◌, map, take, get_or, sym, ◌∙◌, ap, subst, arith}
use Rattle.std.proofs.lemmas.List.{append-nil, take_all}
use Rattle.std.proofs.lemmas.List.Elements.{All-weaker}
use Rattle.fr_model.specs.Words.{IsWord}
use Rattle.fr_model.specs.Terms.{Section, act}
use Rattle.fr_model.proofs.AlikeLaws.{act-nil}
use Rattle.fr_alphabet.specs.Writing.{letter_digit}
use Rattle.fr_store.specs.declared.handle.Handle.{Handle}
use Rattle.fr_store.specs.Store.{Stands}
use Rattle.fr_store.proofs.StoreLaws.{Reads-trans}
use Rattle.fr_expr.proofs.RestrictionLaws.{letter_at, stands_first, stands_next}
use Rattle.fr_eval.specs.declared.transitions.Transition.{Transition}
use Rattle.fr_eval.specs.Transitions.{IsTransition}
use Rattle.fr_eval.proofs.ReadLaws.{known_after, stands_after}
use Rattle.fr_eval.proofs.ImageLaws.{digits_more}
use Rattle.fr_eval.proofs.images.push_long_image.Goals as goal

pub loop-x-init : goal.loop-x-init
loop-x-init g c =
    let view = g.S.Store.view in
    let old = c.args.store.now in
    let new = c.of-first.new.store in
    let first = c.of-first.ensures.is_transition in
    let reads = c.of-first.ensures.reads in
    record {
      known = known_after view old new c.args.h reads c.requires.known;
      reads = reads;
      kept = All-weaker (λ (r : Transition). r ≡ c.of-first.result) (IsTransition view new) (λ r e. subst (IsTransition view new) (sym e) first) c.new-table.result.kept c.new-table.ensures;
      stands = λ t s. stands_first (view.alphabet new) (view.known new) c.args.h t c.args.word.now (stands_after view old new c.args.h t reads s);
      image = λ t s. sym (ap (λ l. c.args.out.now.items ++ map letter_digit l) (act-nil t) ∙ append-nil c.args.out.now.items);
    }

pub get-step-requires-clause-letter : goal.get-step-requires-clause-letter
get-step-requires-clause-letter g c =
    let view = g.S.Store.view in
    let mid = c.loop-x.store in
    let ws = c.args.word.now in
    letter_at (view.alphabet mid) ws c.loop-x.x-index (subst (λ (d : ℕ). IsWord d ws) (sym c.loop-x.invariant.reads.continues.alphabet) c.requires.word) c.loop-x-test.true

pub returns-clause-image : goal.returns-clause-image
returns-clause-image g c = λ t s.
    let ws = c.args.word.now in
    let whole : take c.loop-x.x-index ws ≡ ws = take_all c.loop-x.x-index ws (omega (arith, c.loop-x-test.false)) in
    c.loop-x.invariant.image t s ∙ ap (λ l. c.args.out.now.items ++ map letter_digit (act t l)) whole

pub loop-x-preserved : goal.loop-x-preserved
loop-x-preserved g c =
    let view = g.S.Store.view in
    let on = g.met.S.Store.kin_onward in
    let old = c.args.store.now in
    let mid = c.loop-x.store in
    let new = c.get-step.new.store in
    let ws = c.args.word.now in
    let i = c.loop-x.x-index in
    let x = get_or ws i 0 in
    let inv = c.loop-x.invariant in
    let step = c.get-step.result in
    let is = c.get-step.ensures.is_transition in
    let reads = c.get-step.ensures.reads in
    record {
      known = is.known;
      reads = Reads-trans view on old mid new inv.reads reads;
      kept = c.get-step.ensures.kept;
      stands = λ t s.
          let behind = Section t (take i ws) in
          let from : Stands view new step.from behind = subst (λ (k : Handle). Stands view new k behind) (sym c.get-step.ensures.from) (stands_after view mid new c.loop-x.at behind reads (inv.stands t s)) in
          let next : Stands view new step.to (Section behind (x ∷ [])) = subst (λ (z : ℕ). Stands view new step.to (Section behind (z ∷ []))) c.get-step.ensures.input (is.section behind from) in
          let word : IsWord (view.alphabet new) ws = subst (λ (d : ℕ). IsWord d ws) (sym (reads.continues.alphabet ∙ inv.reads.continues.alphabet)) c.requires.word in
          stands_next (view.alphabet new) (view.known new) step.to t ws i word c.loop-x-test.true from.term.0 next;
      image = λ t s.
          let behind = Section t (take i ws) in
          let from : Stands view new step.from behind = subst (λ (k : Handle). Stands view new k behind) (sym c.get-step.ensures.from) (stands_after view mid new c.loop-x.at behind reads (inv.stands t s)) in
          let put : act behind (x ∷ []) ≡ step.output ∷ [] = subst (λ (z : ℕ). act behind (z ∷ []) ≡ step.output ∷ []) c.get-step.ensures.input (is.image behind from) in
          digits_more t ws i step.output c.args.out.now.items c.loop-x.out.items c.push.new.self.items c.loop-x-test.true put (inv.image t s) c.in_ok-push.ensures.items;
    }

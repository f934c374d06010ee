use Rattle.std.proofs.Common.{ℕ, ◌≡◌, ◌+◌, ◌∷◌, [], ◌++◌, map, take, get_or, sym, ◌∙◌, ap, subst, arith}
use Rattle.std.proofs.lemmas.List.{append-nil}
use Rattle.fr_model.specs.Words.{IsLetter, IsWord}
use Rattle.fr_model.specs.Terms.{Section, act}
use Rattle.fr_model.proofs.AlikeLaws.{act-nil}
use Rattle.fr_alphabet.specs.Writing.{letter_digit}
use Rattle.fr_store.specs.Store.{StandsForTerm}
use Rattle.fr_store.proofs.StoreLaws.{Keeps-same, Reads-trans}
use Rattle.fr_expr.proofs.EvaluationLaws.{Reads-none, carries}
use Rattle.fr_expr.proofs.RestrictionLaws.{letter_at, stands_first, stands_next}
use Rattle.fr_eval.proofs.ImageLaws.{digits_more}
use Rattle.fr_eval.proofs.images.push_short_image.Goals as goal

pub loop-x-init : goal.loop-x-init
loop-x-init g c = record {
  known = c.requires.known;
  reads = Reads-none g.S.Store.view g.met.S.Store.kin_to_self c.args.store.now;
  stands = λ t s. stands_first (g.S.Store.view.alphabet c.args.store.now) (g.S.Store.view.known c.args.store.now) c.args.h t c.args.word.now s;
  image = λ t s. sym (ap (λ l. c.args.out.now.items ++ map letter_digit l) (act-nil t) ∙ append-nil c.args.out.now.items);
}

pub apply-put-requires : goal.apply-put-requires
apply-put-requires g c =
    let view = g.S.Store.view in
    let mid = c.loop-x.store in
    let word : IsWord (view.alphabet mid) c.args.word.now = subst (λ (d : ℕ). IsWord d c.args.word.now) (sym c.loop-x.invariant.reads.continues.alphabet) c.requires.word in
    let letter : IsLetter (view.alphabet mid) (get_or c.args.word.now c.loop-x.x-index 0) = letter_at (view.alphabet mid) c.args.word.now c.loop-x.x-index word c.loop-x-test.true in
    (letter.0, omega (arith, letter.1, c.output.ensures.permutes.degree))

pub loop-x-preserved : goal.loop-x-preserved
loop-x-preserved g c =
    let view = g.S.Store.view in
    let on = g.met.S.Store.kin_onward in
    let old = c.args.store.now in
    let mid = c.loop-x.store in
    let put = c.output.new.self in
    let new = c.section-at.new.self in
    let ws = c.args.word.now in
    let i = c.loop-x.x-index in
    let x = get_or ws i 0 in
    let inv = c.loop-x.invariant in
    let word : IsWord (view.alphabet mid) ws = subst (λ (d : ℕ). IsWord d ws) (sym inv.reads.continues.alphabet) c.requires.word in
    let letter : IsLetter (view.alphabet mid) x = letter_at (view.alphabet mid) ws i word c.loop-x-test.true in
    let r1 = c.output.ensures.reads in
    let r2 = c.section-at.ensures.reads in
    let y = c.apply-put.result in
    record {
      known = c.section-at.ensures.known;
      reads = Reads-trans view on old mid new inv.reads (Reads-trans view on mid put new r1 r2);
      stands = λ t s.
          let here = inv.stands t s in
          let there = carries view mid put c.loop-x.at (Section t (take i ws)) r1.continues (Keeps-same (view.known mid) (view.known put) r1.known) here in
          let next = c.section-at.ensures.section (Section t (take i ws)) there in
          let over : view.alphabet new ≡ view.alphabet put = r2.continues.alphabet in
          let word' : IsWord (view.alphabet put) ws = subst (λ (d : ℕ). IsWord d ws) (sym r1.continues.alphabet) word in
          let valid = there.term in
          subst (λ (d : ℕ). StandsForTerm d (view.known new) c.section-at.result (Section t (take (i + 1) ws))) (sym over) (stands_next (view.alphabet put) (view.known new) c.section-at.result t ws i word' c.loop-x-test.true valid.0 next);
      image = λ t s.
          let here = inv.stands t s in
          let put_out : act (Section t (take i ws)) (x ∷ []) ≡ y ∷ [] = c.output.ensures.images (Section t (take i ws)) x here letter ∙ ap (λ z. z ∷ []) (sym c.apply-put.ensures.value) in
          digits_more t ws i y c.args.out.now.items c.loop-x.out.items c.push.new.self.items c.loop-x-test.true put_out (inv.image t s) c.in_ok-push.ensures.items;
    }

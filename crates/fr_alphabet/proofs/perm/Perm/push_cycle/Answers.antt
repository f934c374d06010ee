use Rattle.std.proofs.Common.{arith, sym, ap, ◌∙◌, ◌+◌, ◌++◌, ◌∷◌, []}
use Rattle.fr_alphabet.proofs.CycleLaws.{IsOnPath-image, IsOnPath-next, path-shorter}
use Rattle.fr_alphabet.proofs.CycleTexts.{Keeps-same, Keeps-more, Keeps-self, others_more, others_none, others_all}
use Rattle.fr_alphabet.proofs.perm.Perm.push_cycle.Goals as goal

pub overflow_add-y : goal.overflow_add-y
overflow_add-y c = let l = c.loop-y.invariant.on.letter in omega (arith, l.1)

pub loop-y-init : goal.loop-y-init
loop-y-init c =
    let old = c.args.out.now.items in
    let text = c.in_ok-push-2.ensures.items ∙ ap (λ l. l ++ (48 + c.args.x) ∷ []) c.in_ok-push.ensures.items in
    record {
      on = rw (c.apply-y.ensures.value) (IsOnPath-image c.args.self.now c.args.x c.requires.permutes c.requires.letter);
      kept = Keeps-more old _ _ _ (Keeps-more old old _ _ (Keeps-self old) c.in_ok-push.ensures.items) c.in_ok-push-2.ensures.items;
      text = others_none c.args.self.now old c.push-2.new.self.items c.args.x c.apply-y.result c.apply-y.ensures.value text;
    }

pub returns-in_err-push-3-clause-kept : goal.returns-in_err-push-3-clause-kept
returns-in_err-push-3-clause-kept c = (Keeps-same c.args.out.now.items _ _ c.loop-y.invariant.kept c.in_err-push-3.ensures.items).kept

pub returns-in_err-push-4-clause-kept : goal.returns-in_err-push-4-clause-kept
returns-in_err-push-4-clause-kept c = (Keeps-same c.args.out.now.items _ _ (Keeps-more c.args.out.now.items _ _ _ c.loop-y.invariant.kept c.in_ok-push-3.ensures.items) c.in_err-push-4.ensures.items).kept

pub loop-y-smaller : goal.loop-y-smaller
loop-y-smaller c = rw (c.apply-y-in-loop-y.ensures.value) (path-shorter c.args.self.now c.args.x c.loop-y.y (λ e. c.loop-y-test.true (sym e)) c.loop-y.invariant.on)

pub loop-y-preserved : goal.loop-y-preserved
loop-y-preserved c =
    let text = c.in_ok-push-4.ensures.items ∙ ap (λ l. l ++ (48 + c.loop-y.y) ∷ []) c.in_ok-push-3.ensures.items in
    rw (c.apply-y-in-loop-y.ensures.value) (record {
      on = IsOnPath-next c.args.self.now c.args.x c.loop-y.y c.requires.permutes (λ e. c.loop-y-test.true (sym e)) c.loop-y.invariant.on;
      kept = Keeps-more c.args.out.now.items _ _ _ (Keeps-more c.args.out.now.items _ _ _ c.loop-y.invariant.kept c.in_ok-push-3.ensures.items) c.in_ok-push-4.ensures.items;
      text = others_more c.args.self.now c.loop-y.out.items c.args.out.now.items c.push-in-loop-y-2.new.self.items _ c.args.x c.loop-y.y (λ e. c.loop-y-test.true (sym e)) c.loop-y.invariant.on c.loop-y.invariant.text text;
    })

pub returns-in_err-push-5-clause-kept : goal.returns-in_err-push-5-clause-kept
returns-in_err-push-5-clause-kept c = (Keeps-same c.args.out.now.items _ _ c.loop-y.invariant.kept c.in_err-push-5.ensures.items).kept

pub returns-clause-ok : goal.returns-clause-ok
returns-clause-ok c = others_all c.args.self.now c.args.out.now.items c.loop-y.out.items c.push-3.new.self.items c.args.x c.loop-y.y (sym c.loop-y-test.false) c.loop-y.invariant.text c.in_ok-push-5.ensures.items

pub returns-clause-kept : goal.returns-clause-kept
returns-clause-kept c = (Keeps-more c.args.out.now.items _ _ _ c.loop-y.invariant.kept c.in_ok-push-5.ensures.items).kept

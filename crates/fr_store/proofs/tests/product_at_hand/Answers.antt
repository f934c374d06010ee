use Rattle.std.proofs.Common.{ℕ, sym, subst}
use Rattle.fr_store.specs.Store.{IsProductOf}
use Rattle.fr_store.proofs.StoreLaws.{IsKnown-term, stands_keeps}
use Rattle.fr_store.proofs.tests.product_at_hand.Goals as goal

pub remember-requires : goal.remember-requires
remember-requires g c =
    let v = g.S.Store.view in
    let old = c.args.store.now in
    let new = c.recall.new.self in
    let r = c.in_ok-square.ensures in
    let t = IsKnown-term (v.alphabet old) (v.known old) c.args.h c.requires.handles c.requires.known in
    let is = r.product t.0 t.0 t.1 t.1 in
    let kept = stands_keeps (v.alphabet old) (v.known old) (v.known new) c.args.h t.0 r.keeps t.1 in
    let P : ℕ → Type 0 = λ d. IsProductOf d (v.known new) c.args.h c.args.h c.in_ok-square.square in
    subst P (sym r.continues.alphabet) (record {
      first = t.0;
      second = t.0;
      first_at = kept;
      second_at = kept;
      product_at = is.handle;
      few = is.few;
    })

use Rattle.std.proofs.Common.{ℕ, ◌≡◌, ◌≢◌, ◌<◌, ◌+◌, arith, get_or, set, length, sym, ◌∙◌, false, true, not, inl, inr, refl, ap, subst}
use Rattle.std.proofs.Math.Dec.{eqb}
use Rattle.std.proofs.lemmas.Bool.{eq-eqb, true≢false}
use Rattle.std.proofs.lemmas.Bool.Decides.{eqb_tells}
use Rattle.std.proofs.lemmas.List.{get_or_read}
use Rattle.std.proofs.lemmas.List.Elements.{All-get_or}
use Rattle.fr_classes.specs.declared.partition.Partition.{Partition}
use Rattle.fr_classes.specs.Refinement.{flag_at, class_in, known_at, IsPlaced, IsTarget, IsTallied}
use Rattle.fr_classes.proofs.TargetLaws.{target_inside, clean_room}
use Rattle.fr_classes.proofs.partition.Partition.place.Goals as goal

pub returns-then-not-index : goal.returns-then-not-index
returns-then-not-index c =
    IsPlaced.idle (sym (get_or_read c.args.self.now.dirty.items c.args.item.now.row c.index.result.now (omega (arith, c.requires.row, c.requires.tallied.flags)) c.index.ensures true) ∙ c.if-not-index.true) refl refl refl

class_lt : (p : Partition) (s x : ℕ) → IsTallied p → s < length p.of.items → x ≡ get_or p.of.items s x → x < length p.known.items
class_lt p s x t l e = let y = get_or_read p.of.items s x l e 0 in let z = All-get_or (λ c. c < length p.known.items) p.of.items s 0 l t.below in omega (arith, y, z)

pub target-requires : goal.target-requires
target-requires c =
    let p = c.args.self.now in
    let s = c.args.item.now.row in
    let e : c.index-class.result.now ≡ class_in p s = get_or_read p.of.items s _ c.requires.row c.index-class.ensures 0 in
    record {
      class = class_lt p s _ c.requires.tallied c.requires.row c.index-class.ensures;
      as_many = c.requires.tallied.as_many;
      room = λ apart. c.requires.other (λ k. apart (ap (known_at p) e ∙ k));
      table = c.requires.seen.table;
    }

pub index_mut-requires-3 : goal.index_mut-requires-3
index_mut-requires-3 c = omega (arith, target_inside _ _ _ _ _ _ _ c.requires.seen c.in_ok-target.ensures)

pub overflow_add-index_mut : goal.overflow_add-index_mut
overflow_add-index_mut c =
    let n = clean_room _ c.target.new.self _ _ _ _ c.in_ok-target.target c.requires.tallied c.in_ok-target.ensures in
    let l = target_inside _ _ _ _ _ _ _ c.requires.seen c.in_ok-target.ensures in
    let e = get_or_read c.target.new.self.clean.items c.in_ok-target.target c.index_mut-3.result.now l c.index_mut-3.ensures.value 0 in
    omega (arith, n, e)

other_class : (m k c : ℕ) → k ≡ c → not (eqb m k) ≡ true → m ≢ c
other_class m k c e h f = true≢false (sym h ∙ ap not (eq-eqb m k (f ∙ sym e)))

own_class : (m k c : ℕ) → k ≡ c → not (eqb m k) ≡ false → m ≡ c
own_class m k c e h = elim (eqb_tells m k) [ inl t ↦ t.1 ∙ e | inr t ↦ absurd (true≢false (ap not (sym t.0) ∙ h)) ]

pub returns : goal.returns
returns c =
    let p = c.args.self.now in
    let s = c.args.item.now.row in
    let t = c.target.new.self in
    let m = c.in_ok-target.target in
    let e : c.index-class.result.now ≡ class_in p s = get_or_read p.of.items s _ c.requires.row c.index-class.ensures 0 in
    let f : flag_at p s ≡ true = sym (get_or_read p.dirty.items s c.index.result.now (omega (arith, c.requires.row, c.requires.tallied.flags)) c.index.ensures true) ∙ c.if-not-index.false in
    let P : ℕ → Type 0 = λ n. IsTarget p t c.args.seen.now c.target.new.seen n c.args.item.now.signature m in
    let x : IsTarget p t c.args.seen.now c.target.new.seen (class_in p s) c.args.item.now.signature m = subst P e c.in_ok-target.ensures in
    let l = target_inside p t _ _ _ _ m c.requires.seen x in
    let v = get_or_read t.clean.items m c.index_mut-3.result.now l c.index_mut-3.ensures.value 0 in
    IsPlaced.goes t m f x refl refl (ap (λ n. set t.clean.items m (n + 1)) v) refl refl (own_class m _ _ e) (other_class m _ _ e)

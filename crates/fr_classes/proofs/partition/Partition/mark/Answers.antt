use Rattle.std.proofs.Common.{arith, ℕ, ◌≡◌, ◌-◌, ◌<◌, ◌∙◌, set, get_or, sym, ap, refl, true, false, length}
use Rattle.std.proofs.lemmas.List.{get_or_read}
use Rattle.std.proofs.lemmas.List.Elements.{All-get_or}
use Rattle.fr_classes.specs.declared.partition.Partition.{Partition}
use Rattle.fr_classes.specs.Refinement.{flag_at, class_in, clean_at, IsTallied}
use Rattle.fr_classes.proofs.MarkLaws.{IsMarked-before, IsMarked-now, one_clean}
use Rattle.fr_classes.proofs.partition.Partition.mark.Goals as goal

class_lt : (p : Partition) (s x : ℕ) → IsTallied p → s < length p.of.items → x ≡ get_or p.of.items s x → x < length p.clean.items
class_lt p s x t l e = let y = get_or_read p.of.items s x l e 0 in let z = All-get_or (λ c. c < length p.known.items) p.of.items s 0 l t.below in omega (arith, y, z, t.as_many)

pub index_mut-requires-2 : goal.index_mut-requires-2
index_mut-requires-2 c = omega (arith, class_lt c.args.self.now c.args.row c.index-2.result.now c.requires.tallied c.requires.row c.index-2.ensures)

pub overflow_sub-index_mut : goal.overflow_sub-index_mut
overflow_sub-index_mut c =
    let p = c.args.self.now in
    let s = c.args.row in
    let f : flag_at p s ≡ false = sym (get_or_read p.dirty.items s c.index.result.now (omega (arith, c.requires.row, c.requires.tallied.flags)) c.index.ensures true) ∙ c.if-index.false in
    let e : c.index-2.result.now ≡ class_in p s = get_or_read p.of.items s _ c.requires.row c.index-2.ensures 0 in
    let l = class_lt p s c.index-2.result.now c.requires.tallied c.requires.row c.index-2.ensures in
    let v = get_or_read p.clean.items c.index-2.result.now c.index_mut-2.result.now l c.index_mut-2.ensures.value 0 in
    let w = one_clean p s c.requires.tallied c.requires.row f in
    let same = ap (clean_at p) e in
    omega (arith, v, w, same)

pub returns-then-index : goal.returns-then-index
returns-then-index c =
    let p = c.args.self.now in
    IsMarked-before p c.args.row c.requires.tallied c.requires.queued (sym (get_or_read p.dirty.items c.args.row c.index.result.now (omega (arith, c.requires.row, c.requires.tallied.flags)) c.index.ensures true) ∙ c.if-index.true)

pub returns : goal.returns
returns c =
    let p = c.args.self.now in
    let s = c.args.row in
    let f : flag_at p s ≡ false = sym (get_or_read p.dirty.items s c.index.result.now (omega (arith, c.requires.row, c.requires.tallied.flags)) c.index.ensures true) ∙ c.if-index.false in
    let e : c.index-2.result.now ≡ class_in p s = get_or_read p.of.items s _ c.requires.row c.index-2.ensures 0 in
    let l = class_lt p s c.index-2.result.now c.requires.tallied c.requires.row c.index-2.ensures in
    let v : c.index_mut-2.result.now ≡ clean_at p (class_in p s) = get_or_read p.clean.items c.index-2.result.now c.index_mut-2.result.now l c.index_mut-2.ensures.value 0 ∙ ap (clean_at p) e in
    IsMarked-now p _ s c.requires.tallied c.requires.queued c.requires.row f refl refl refl (ap (λ m. set p.clean.items m (c.index_mut-2.result.now - 1)) e ∙ ap (λ n. set p.clean.items (class_in p s) (n - 1)) v) c.in_ok-push.ensures.items

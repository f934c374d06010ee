use Rattle.std.proofs.Common.{ℕ, ◌≡◌, ◌<◌, ◌≤◌, ◌+◌, ◌-◌, inl, inr, length, get_or, set, ◌∙◌, refl, ap, arith}
use Rattle.std.proofs.lemmas.Bool.{cases_eq}
use Rattle.std.proofs.lemmas.List.{get_or_read, length-set, get_or-set_same, get_or-set_other}
use Rattle.fr_classes.specs.declared.members.Members.{Members}
use Rattle.fr_classes.specs.Members.{IsMembers}
use Rattle.fr_classes.proofs.MemberLaws.{class_read, size-le, IsMembers-moved}
use Rattle.fr_classes.proofs.members.Members.move_to.Goals as goal

pub overflow_sub-index_mut : goal.overflow_sub-index_mut
overflow_sub-index_mut c =
    let m = c.link.new.self in
    let h = c.link.ensures.members in
    let row : c.args.row < length m.of.items = omega (arith, c.requires.row, ap length c.link.ensures.of, ap length c.unlink.ensures.of) in
    let old = c.index-old.result.now in
    let is_old : old ≡ get_or m.of.items c.args.row 0 = get_or_read m.of.items c.args.row old row c.index-old.ensures 0 in
    let r = class_read m c.args.row old h row is_old in
    omega (arith, r.1, get_or_read m.size.items old c.index_mut-2.result.now r.0 c.index_mut-2.ensures.value 0)

-- what is taken from one class leaves room at each
still_small : (m : Members) (o c v : ℕ) → IsMembers m → c < length m.of.items → o < length m.size.items → v ≤ 65536 → get_or (set m.size.items o v) c 0 ≤ 65536
still_small m o c v h l k small = elim (cases_eq c o) [
  | inl e ↦ omega (arith, ap (λ i. get_or (set m.size.items o v) i 0) e, get_or-set_same m.size.items o v 0 k)
  | inr n ↦ omega (arith, get_or-set_other m.size.items o c v 0 n, size-le m c h l)
]

pub overflow_add-index_mut : goal.overflow_add-index_mut
overflow_add-index_mut c =
    let m = c.link.new.self in
    let h = c.link.ensures.members in
    let row : c.args.row < length m.of.items = omega (arith, c.requires.row, ap length c.link.ensures.of, ap length c.unlink.ensures.of) in
    let class : c.args.class < length m.of.items = omega (arith, c.requires.class, ap length c.link.ensures.of, ap length c.unlink.ensures.of) in
    let old = c.index-old.result.now in
    let is_old : old ≡ get_or m.of.items c.args.row 0 = get_or_read m.of.items c.args.row old row c.index-old.ensures 0 in
    let r = class_read m c.args.row old h row is_old in
    let v = c.index_mut-2.result.now - 1 in
    let small : v ≤ 65536 = omega (arith, size-le m old h (omega (arith, r.0, h.size_count)), get_or_read m.size.items old c.index_mut-2.result.now r.0 c.index_mut-2.ensures.value 0) in
    let read = get_or_read (set m.size.items old v) c.args.class c.index_mut-3.result.now (omega (arith, length-set m.size.items old v, h.size_count)) c.index_mut-3.ensures.value 0 in
    omega (arith, read, still_small m old c.args.class v h class r.0 small)

pub returns-clause-members : goal.returns-clause-members
returns-clause-members c =
    let m = c.link.new.self in
    let h = c.link.ensures.members in
    let row : c.args.row < length m.of.items = omega (arith, c.requires.row, ap length c.link.ensures.of, ap length c.unlink.ensures.of) in
    let class : c.args.class < length m.of.items = omega (arith, c.requires.class, ap length c.link.ensures.of, ap length c.unlink.ensures.of) in
    let old = c.index-old.result.now in
    let is_old : old ≡ get_or m.of.items c.args.row 0 = get_or_read m.of.items c.args.row old row c.index-old.ensures 0 in
    let r = class_read m c.args.row old h row is_old in
    let v = c.index_mut-2.result.now - 1 in
    let less = get_or_read m.size.items old c.index_mut-2.result.now r.0 c.index_mut-2.ensures.value 0 in
    let more = get_or_read (set m.size.items old v) c.args.class c.index_mut-3.result.now (omega (arith, length-set m.size.items old v, h.size_count)) c.index_mut-3.ensures.value 0 in
    IsMembers-moved m _ c.args.row old c.args.class v (c.index_mut-3.result.now + 1) h row class is_old refl (ap (λ n. n - 1) less) (ap (λ n. n + 1) more) refl refl refl refl

pub returns-clause-of : goal.returns-clause-of
returns-clause-of c = ap (λ xs. set xs c.args.row c.args.class) (c.link.ensures.of ∙ c.unlink.ensures.of)

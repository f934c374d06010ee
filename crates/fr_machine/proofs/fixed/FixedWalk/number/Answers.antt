use Rattle.std.proofs.Common.{arith, ℕ, ◌≡◌, ◌<◌, ◌≤◌, refl, get_or, List, length}
use Rattle.std.proofs.lemmas.List.{get_or_read}
use Rattle.fr_machine.proofs.FixedLaws.{IsFixed-room, IsFixed-more}
use Rattle.fr_machine.proofs.fixed.FixedWalk.number.Goals as goal

fresh : (index : List ℕ) (key x : ℕ) → key < length index → x ≡ get_or index key x → x ≤ 0 → get_or index key 0 ≡ 0
fresh index key x l e h = omega (arith, get_or_read index key x l e 0, h)

pub prove-unreachable-requires : goal.prove-unreachable-requires
prove-unreachable-requires c =
    let h = c.self.invariant in
    let f = fresh c.self.inside.index.items c.args.key c.index-known.result.now (omega (arith, h.size, c.requires.key)) c.index-known.ensures c.if-known-gt0.false in
    omega (arith, IsFixed-room c.self.inside.index.items c.self.inside.table.items c.self.inside.count c.args.key h c.requires.key f, c.if-prove.true)

pub invariant_of-self : goal.invariant_of-self
invariant_of-self c =
    let h = c.self.invariant in
    let f = fresh c.self.inside.index.items c.args.key c.index-known.result.now (omega (arith, h.size, c.requires.key)) c.index-known.ensures c.if-known-gt0.false in
    IsFixed-more c.self.inside.index.items c.self.inside.table.items _ _ c.self.inside.count c.args.key h c.requires.key f c.if-prove.false refl refl

use Rattle.std.proofs.Common.{rules, arith, ◌≡◌, ◌^◌, ◌++◌, ◌∙◌, ap, length, replicate}
use Rattle.std.proofs.Math.Nat.{pow-le-pow_right}
use Rattle.std.proofs.lemmas.Nat.{pow_pos}
use Rattle.std.proofs.lemmas.List.{length-replicate}
use Rattle.fr_store.proofs.index.Index.widen.Goals as goal

pub push_empty-requires : goal.push_empty-requires
push_empty-requires c =
    let s = c.args.self.now in
    let p = pow-le-pow_right {n = 2} (omega arith) {i = c.args.bits} {j = s.most_bits} c.requires in
    let n = ap length c.clear.ensures.items in
    let e : c.pow.result ≡ 2 ^ c.args.bits = search rules in
    omega (arith, p, n, e, s.room, c.clear.ensures.capacity)

pub invariant_of-self-clause-power : goal.invariant_of-self-clause-power
invariant_of-self-clause-power c =
    let e : c.pow.result ≡ 2 ^ c.args.bits = search rules in
    ap length (c.push_empty.ensures.cells ∙ ap (λ xs. xs ++ replicate c.pow.result 0) c.clear.ensures.items) ∙ length-replicate c.pow.result 0 ∙ e

pub invariant_of-self-clause-some : goal.invariant_of-self-clause-some
invariant_of-self-clause-some c =
    let e : c.pow.result ≡ 2 ^ c.args.bits = search rules in
    let n = ap length (c.push_empty.ensures.cells ∙ ap (λ xs. xs ++ replicate c.pow.result 0) c.clear.ensures.items) ∙ length-replicate c.pow.result 0 ∙ e in
    omega (arith, n, pow_pos c.args.bits)

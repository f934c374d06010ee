use Rattle.std.proofs.Common.{rules, arith, ◌≡◌, ◌≤◌, ◌^◌, ap, length}
use Rattle.std.proofs.Math.Nat.{pow-le-pow_right}
use Rattle.fr_store.proofs.index.Index.new.Goals as goal

pub push_empty-requires : goal.push_empty-requires
push_empty-requires c =
    let few : c.min-bits.result ≤ c.bits_for-most_bits.result = search rules in
    let p = pow-le-pow_right {n = 2} (omega arith) {i = c.min-bits.result} {j = c.bits_for-most_bits.result} few in
    let e : c.pow.result ≡ 2 ^ c.bits_for-most_bits.result = search rules in
    let f : c.pow-2.result ≡ 2 ^ c.min-bits.result = search rules in
    let n = ap length c.in_ok-cells.ensures.items in
    omega (arith, p, e, f, n, c.in_ok-cells.ensures.capacity)

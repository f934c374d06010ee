-- A pack names one row of one block, and a cache word three rows.
use Rattle.std.proofs.Common.{◌≡◌, ℕ, ◌+◌, ◌-◌, ◌*◌, ◌<◌, ◌≤◌, arith}
use Rattle.fr_layout.specs.declared.plan.Block.{Block}
use Rattle.fr_layout.specs.Places.{IsIn}
use Rattle.fr_layout.specs.Packs.{pack_of, product_word}
use Rattle.fr_layout.specs.Laws.{PacksNameOneRow}

-- the digits of a number to the base 1,024
digits : (a b c x y z : ℕ) → a < 1024 → x < 1024 → b < 1024 → y < 1024 → a + (1024 * b + 1048576 * c) ≡ x + (1024 * y + 1048576 * z) → (a ≡ x) × (b ≡ y) × (c ≡ z)
digits a b c x y z h1 h2 h3 h4 e = (omega arith, omega arith, omega arith)

pub one_row : (b d : Block) (r q : ℕ) → IsIn r b → IsIn q d → b.size ≤ 1024 → d.size ≤ 1024 → pack_of b r ≡ pack_of d q → (b ≡ d) × (r ≡ q)
one_row b d r q i j s t e =
    let i0 = i.0 in let i1 = i.1 in let j0 = j.0 in let j1 = j.1 in
    let h = digits (r - b.start) (b.size - 1) b.start (q - d.start) (d.size - 1) d.start (omega arith) (omega arith) (omega arith) (omega arith) (omega arith) in
    let h0 = h.0 in let h1 = h.1 in let h2 = h.2 in
    let size : b.size ≡ d.size = omega arith in
    (λ k. record { start = h.2 k; size = size k }, omega arith)

pub three_rows : (a b c x y z : ℕ) → a < 1048576 → b < 1048576 → x < 1048576 → y < 1048576 → product_word a b c ≡ product_word x y z → (a ≡ x) × (b ≡ y) × (c ≡ z)
three_rows a b c x y z h1 h2 h3 h4 e = (omega arith, omega arith, omega arith)

pub packs : PacksNameOneRow
packs = record { packs = one_row; products = three_rows }

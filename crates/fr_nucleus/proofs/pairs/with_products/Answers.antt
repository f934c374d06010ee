use Rattle.std.proofs.Common.{ℕ, arith, sym, subst, ◌*◌, ◌≤◌, length}
use Rattle.std.proofs.lemmas.Nat.{mul-le}
use Rattle.fr_machine.specs.Rows.{IsMachine}
use Rattle.fr_nucleus.proofs.ProductLaws.{IsMachine-products}
use Rattle.fr_nucleus.proofs.pairs.with_products.Goals as goal

pub from_rows-requires : goal.from_rows-requires
from_rows-requires c =
    let m = c.args.members.now in
    let q = c.args.sections.now in
    let P : ℕ → Type 0 = λ d. IsMachine d q.rows in
    let G : ℕ → Type 0 = λ d. IsMachine d c.push_products.new.rows.items in
    let most = mul-le (length m.rows) (length q.rows) 256 64 c.requires.few c.requires.few_too in
    let room : length m.rows * length q.rows ≤ 65536 = omega (arith, most) in
    subst G (sym c.alphabet.ensures.value) (IsMachine-products m.alphabet m.rows q.rows c.push_products.new.rows.items c.rows-members.ensures.valid (subst P (sym c.requires.alphabets) c.rows-sections.ensures.valid) room c.in_ok-push_products.ensures.table)

use Rattle.std.proofs.Common.{arith, ap, ◌≡◌, ◌+◌, ◌<◌, ◌≤◌, length, ℕ}
use Rattle.fr_store.specs.declared.blocks.Place.{Place}
use Rattle.fr_store.specs.Blocks.{place_at}
use Rattle.fr_store.proofs.BlockLaws.{read_place}
use Rattle.fr_store.proofs.blocks.Blocks.next.Goals as goal

-- the start of the block and a row of it, as a row
sum : (p q : Place) (n rows size : ℕ) → p ≡ q → n < size → size ≡ q.size → q.start + q.size ≤ rows → p.start + n < rows
sum p q n rows size e l s w = let f = ap (λ (p : Place). p.start) e in omega (arith, f, l, s, w)

pub overflow_add-result : goal.overflow_add-result
overflow_add-result c =
    let place = read_place c.args.self.now.alphabet c.args.self.now.rows.items c.args.self.now.places.items c.args.row c.index-place.result.now c.args.self.now.are_blocks c.requires.row c.index-place.ensures in
    let few = c.args.self.now.few in
    let l : c.index-place.result.now.start + c.next_of-next.result < length c.args.self.now.rows.items = sum c.index-place.result.now (place_at c.args.self.now.places.items c.args.row) c.next_of-next.result (length c.args.self.now.rows.items) (length c.block.result.now) place c.next_of-next.ensures.row c.block.ensures.size c.block.ensures.placed.within in
    record { fits = omega (arith, l, few) }

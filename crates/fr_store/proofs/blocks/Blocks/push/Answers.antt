use Rattle.std.proofs.Common.{rules, arith, ap, sym, subst, ◌≡◌, ◌<◌, ◌^◌, ◌++◌, length, replicate, set, ℕ, List}
use Rattle.std.proofs.lemmas.List.{length-append}
use Rattle.fr_machine.specs.declared.row.Row.{Row}
use Rattle.fr_machine.specs.Minimal.{IsMinimal}
use Rattle.fr_store.specs.declared.blocks.Place.{Place}
use Rattle.fr_store.specs.Blocks.{AreBlocks, AreSizes}
use Rattle.fr_store.proofs.BlockLaws.{AreBlocks-push}
use Rattle.fr_store.proofs.SizeLaws.{AreSizes-push}
use Rattle.fr_store.proofs.blocks.Blocks.push.Goals as goal

pub invariant_of-self : goal.invariant_of-self
invariant_of-self c =
    let d = c.args.self.now.alphabet in
    let new = c.args.m.now.rows in
    let rows : c.extend_from_slice.new.self.items ≡ c.args.self.now.rows.items ++ new = search rules in
    let places : c.push_places.new.places.items ≡ c.args.self.now.places.items ++ replicate (length new) (record { start = length c.args.self.now.rows.items; size = length new }) = search rules in
    let sizes : c.push_sizes.new.sizes.items ≡ set (c.args.self.now.sizes.items ++ replicate (length new) 0) (length c.args.self.now.sizes.items) (length new) = search rules in
    let few : length c.extend_from_slice.new.self.items < 2 ^ 32 = omega (arith, ap length rows, length-append c.args.self.now.rows.items new, c.requires.few) in
    let P : ℕ → Type 0 = λ e. IsMinimal e new in
    let minimal : IsMinimal d new = subst P c.requires.alphabet c.machine.ensures.valid in
    let Q : List Row → Type 0 = λ rs. AreBlocks d rs c.push_places.new.places.items in
    let R : List Place → Type 0 = λ ps. AreBlocks d (c.args.self.now.rows.items ++ new) ps in
    let Q' : List Row → Type 0 = λ rs. AreSizes d rs c.push_places.new.places.items c.push_sizes.new.sizes.items in
    let R' : List Place → Type 0 = λ ps. AreSizes d (c.args.self.now.rows.items ++ new) ps c.push_sizes.new.sizes.items in
    let S' : List ℕ → Type 0 = λ ns. AreSizes d (c.args.self.now.rows.items ++ new) (c.args.self.now.places.items ++ replicate (length new) (record { start = length c.args.self.now.rows.items; size = length new })) ns in
    record {
      are_blocks = subst Q (sym rows) (subst R (sym places) (AreBlocks-push d c.args.self.now.rows.items c.args.self.now.places.items c.args.self.now.are_blocks new minimal));
      are_sizes = subst Q' (sym rows) (subst R' (sym places) (subst S' (sym sizes) (AreSizes-push d c.args.self.now.rows.items c.args.self.now.places.items c.args.self.now.are_blocks new minimal c.args.self.now.sizes.items c.args.self.now.are_sizes)));
      few = few;
      least = c.args.self.now.least;
      most = c.args.self.now.most;
    }

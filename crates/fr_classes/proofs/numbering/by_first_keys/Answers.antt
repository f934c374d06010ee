use Rattle.std.proofs.Common.{arith, ◌≡◌, length}
use Rattle.fr_classes.proofs.KeyNumberLaws.{AreMet-more, IsNumberingOfKeys-met}
use Rattle.fr_classes.proofs.numbering.by_first_keys.Goals as goal

pub loop-key-preserved : goal.loop-key-preserved
loop-key-preserved c = record {
  sparse = c.in_ok-number.ensures.sparse;
  met = AreMet-more c.args.keys.now c.loop-key.of.items c.push.new.self.items c.loop-key.walk.keys.items c.number.new.self.keys.items c.loop-key.key-index c.in_ok-number.field-0 c.loop-key.invariant.met c.in_ok-number.ensures.met c.in_ok-push.ensures.items;
}

pub returns : goal.returns
returns c =
    let w = c.loop-key.walk in
    let i = c.loop-key.key-index in
    let whole : i ≡ length c.args.keys.now = omega (arith, c.loop-key-test.false, c.loop-key.auto.key-index-end) in
    rw c.count.ensures (IsNumberingOfKeys-met c.args.keys.now c.loop-key.of.items w i c.loop-key.invariant.sparse c.loop-key.invariant.met whole)

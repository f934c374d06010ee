use Rattle.std.proofs.Common.{arith, inl, refl, length}
use Rattle.fr_growth.specs.Layers.{IsToFirst}
use Rattle.fr_growth.proofs.PartLaws.{part_none, part_less, lowered_more}
use Rattle.fr_growth.proofs.layers.layer_before.Goals as goal

pub loop-place-init : goal.loop-place-init
loop-place-init c =
    let m = c.machine-known.ensures.valid in
    record {
      part = rw c.clear.ensures.rows (part_none c.args.m.now.alphabet c.args.m.now.rows c.args.goals.now c.args.distances.now.values.items c.args.edges.now.list.items c.args.long (λ e. IsToFirst c.args.m.now.rows c.args.edges.now.list.items c.args.rows.now 0 e) c.clear.new.self.set c.clear.new.self.letters.items c.args.bound.now
          (λ e q. absurd (omega (arith, q.1))) (omega (arith, c.clear.ensures.letters, c.requires.letters)) m.small c.clear.ensures.set);
      lowered = record { most = omega arith; least = c.requires.bound; cause = inl refl };
    }

pub returns-clause-layer : goal.returns-clause-layer
returns-clause-layer c =
    part_less c.args.m.now.alphabet c.args.m.now.rows c.args.goals.now c.args.distances.now.values.items c.args.edges.now.list.items c.args.long (λ e. IsToFirst c.args.m.now.rows c.args.edges.now.list.items c.args.rows.now c.loop-place.place e) (λ e. IsToFirst c.args.m.now.rows c.args.edges.now.list.items c.args.rows.now (length c.args.rows.now) e)
    c.loop-place.layer.set c.loop-place.layer.rows.items c.loop-place.layer.letters.items c.loop-place.bound c.loop-place.invariant.part (λ e l q k. (q.0, omega (arith, q.1, c.loop-place-test.false), q.2, q.3))

pub loop-place-preserved : goal.loop-place-preserved
loop-place-preserved c = record {
  part = c.in_ok-enter_before.ensures.layer;
  lowered = lowered_more c.args.m.now.alphabet c.args.m.now.rows c.args.goals.now c.args.from c.args.long c.args.bound.now c.loop-place.bound c.enter_before.new.bound c.loop-place.invariant.lowered c.in_ok-enter_before.ensures.lowered;
}

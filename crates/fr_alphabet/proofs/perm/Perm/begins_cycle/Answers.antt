use Rattle.std.proofs.Common.{arith, ◌∙◌, refl}
use Rattle.fr_alphabet.proofs.CycleLaws.{IsOnPath-image, IsOnPath-next, least-next, path-shorter}
use Rattle.fr_alphabet.proofs.perm.Perm.begins_cycle.Goals as goal

pub loop-y-init : goal.loop-y-init
loop-y-init c = rw (c.apply-y.ensures.value) (record { on = IsOnPath-image c.args.self.now c.args.x c.requires.permutes c.requires.letter; rest = refl })

pub loop-y-smaller : goal.loop-y-smaller
loop-y-smaller c = rw (c.apply-y-in-loop-y.ensures.value) (path-shorter c.args.self.now c.args.x c.loop-y.y (λ e. omega arith) c.loop-y.invariant.on)

pub loop-y-preserved : goal.loop-y-preserved
loop-y-preserved c = rw (c.apply-y-in-loop-y.ensures.value) (record {
  on = IsOnPath-next c.args.self.now c.args.x c.loop-y.y c.requires.permutes (λ e. omega arith) c.loop-y.invariant.on;
  rest = least-next c.args.self.now c.args.x c.loop-y.y c.loop-y-test.true c.loop-y.invariant.on ∙ c.loop-y.invariant.rest;
})

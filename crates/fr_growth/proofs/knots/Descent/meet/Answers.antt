use Rattle.std.proofs.Common.{arith, ◌<◌, length, get_or}
use Rattle.fr_growth.specs.Knots.{IsBehind}
use Rattle.fr_growth.proofs.RowLaws.{IsReached-trans}
use Rattle.fr_growth.proofs.KnotLaws.{begins-le, walk_place}
use Rattle.fr_growth.proofs.knots.Descent.meet.Goals as goal

pub enter-requires-clause-reached : goal.enter-requires-clause-reached
enter-requires-clause-reached c = λ a l.
    let m = c.machine-known.ensures.valid in
    let d = c.args.m.now.alphabet in
    let rows = c.args.m.now.rows in
    let s = c.args.self.now in
    let h = c.requires.descent in
    let on : c.args.place < length s.path.items = omega (arith, c.requires.place, walk_place d rows m s.path.items s.bounds.items s.walk.items s.letters.items h.walk c.requires.some) in
    let behind : IsBehind s.bounds.items a c.args.place = λ i o e. omega (arith, c.requires.place, begins-le d s.path.items s.bounds.items s.walk.items s.letters.items i h.walk o) in
    IsReached-trans d rows (get_or s.path.items a 0) (get_or s.path.items c.args.place 0) c.args.target (h.knots.linked a c.args.place l on behind) c.requires.reached

use Rattle.std.proofs.Common.{arith, ◌≡◌, ◌<◌, length}
use Rattle.fr_growth.proofs.KnotLaws.{met_rows-le, path_entered, knots_entered, walk_entered, met_entered, looked_entered, few_entered, listed_entered}
use Rattle.fr_growth.proofs.knots.Descent.enter.Goals as goal

pub overflow_cast-place : goal.overflow_cast-place
overflow_cast-place c =
    let m = c.machine-known.ensures.valid in
    let s = c.args.self.now in
    let h = c.requires.descent in
    omega (arith, c.len-place.ensures, s.path.ok.0, h.few, met_rows-le s.letters.items, h.met.letters_size, m.small)

pub returns-clause-descent : goal.returns-clause-descent
returns-clause-descent c =
    let m = c.machine-known.ensures.valid in
    let d = c.args.m.now.alphabet in
    let rows = c.args.m.now.rows in
    let s = c.args.self.now in
    let h = c.requires.descent in
    let t = c.args.row in
    let short : length s.path.items < 65535 = omega (arith, h.few, met_rows-le s.letters.items, h.met.letters_size, m.small) in
    let at : c.len-place.result ≡ length s.path.items = omega (arith, c.len-place.ensures, s.path.ok.0) in
    record {
      path = rw (c.in_ok-push.ensures.items, at) (path_entered d rows m s.path.items s.bounds.items s.walk.items s.places.items s.numbers.items s.letters.items s.count t h.path h.knots h.walk h.met h.looked h.few short c.requires.row c.requires.fresh);
      knots = rw (c.in_ok-push.ensures.items, c.in_ok-push-2.ensures.items, at) (knots_entered d rows m s.path.items s.bounds.items s.walk.items s.places.items s.numbers.items s.letters.items s.count t h.path h.knots h.walk h.met h.looked h.few short c.requires.row c.requires.fresh c.requires.reached);
      walk = rw (c.in_ok-push.ensures.items, c.in_ok-push-2.ensures.items, c.in_ok-push-3.ensures.items, at) (walk_entered d rows m s.path.items s.bounds.items s.walk.items s.places.items s.numbers.items s.letters.items s.count t h.path h.knots h.walk h.met h.looked h.few short c.requires.row c.requires.fresh);
      met = rw (c.in_ok-push.ensures.items, at) (met_entered d rows m s.path.items s.bounds.items s.walk.items s.places.items s.numbers.items s.letters.items s.count t h.path h.knots h.walk h.met h.looked h.few short c.requires.row c.requires.fresh);
      looked = rw (c.in_ok-push.ensures.items, c.in_ok-push-2.ensures.items, at) (looked_entered d rows m s.path.items s.bounds.items s.walk.items s.places.items s.numbers.items s.letters.items s.count t h.path h.knots h.walk h.met h.looked h.few short c.requires.row c.requires.fresh);
      numbered = h.numbered;
      few = rw c.in_ok-push.ensures.items (few_entered d rows m s.path.items s.bounds.items s.walk.items s.places.items s.numbers.items s.letters.items s.count t h.path h.knots h.walk h.met h.looked h.few short c.requires.row c.requires.fresh);
      listed = rw c.in_ok-push.ensures.items (listed_entered d rows m s.path.items s.bounds.items s.walk.items s.places.items s.numbers.items s.letters.items s.count t h.path h.knots h.walk h.met h.looked h.few short c.requires.row c.requires.fresh s.order.items h.listed);
    }

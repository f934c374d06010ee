use Rattle.std.proofs.Common.{arith, ℕ, ◌≡◌, ◌++◌, [], ◌∷◌, take, ap, sym, ◌∙◌, Vec, Global}
use Rattle.fr_growth.specs.Knots.{last_of}
use Rattle.fr_growth.proofs.KnotLaws.{met_rows-le, popped, last_pushed, path_finished, knots_finished, walk_finished, met_finished, looked_finished, numbered_finished, few_finished, listed_finished}
use Rattle.fr_growth.proofs.knots.Descent.finish.Goals as goal

pub overflow_add-self : goal.overflow_add-self
overflow_add-self c =
    let m = c.machine-known.ensures.valid in
    let s = c.args.self.now in
    let h = c.requires.descent in
    omega (arith, c.number.ensures.count, h.few, met_rows-le s.letters.items, h.met.letters_size, m.small)

pub returns-clause-descent : goal.returns-clause-descent
returns-clause-descent c =
    let m = c.machine-known.ensures.valid in
    let d = c.args.m.now.alphabet in
    let rows = c.args.m.now.rows in
    let s = c.args.self.now in
    let h = c.requires.descent in
    let to = c.number.new.self in
    let b = c.unwrap-begin.result in
    let bs = c.pop-2.new.self.items in
    let ws = c.pop.new.self.items in
    let bounds : s.bounds.items ≡ bs ++ b ∷ [] = rw c.unwrap-begin.ensures at c.pop-2.ensures.items in
    let last : last_of s.walk.items ≡ b = sym c.requires.place ∙ ap last_of bounds ∙ last_pushed bs b in
    let walk : s.walk.items ≡ ws ++ b ∷ [] = popped s.walk.items ws _ b c.requires.some c.pop.ensures.rest s.walk.ok.0 last in
    let knots = rw bounds at h.knots in
    let opens = rw (bounds, walk) at h.walk in
    let looked = rw bounds at h.looked in
    let over = rw last at c.requires.whole in
    let path' : c.truncate.new.self.items ≡ take b s.path.items = c.truncate.ensures.items ∙ ap (λ (v : Vec ℕ Global). take b v.items) c.number.ensures.path in
    let bounds' : to.bounds.items ≡ bs = ap (λ (v : Vec ℕ Global). v.items) c.number.ensures.bounds in
    let walk' : to.walk.items ≡ ws = ap (λ (v : Vec ℕ Global). v.items) c.number.ensures.walk in
    let letters' : to.letters.items ≡ s.letters.items = ap (λ (v : Vec ℕ Global). v.items) c.number.ensures.letters in
    let numbering = c.in_ok-number.ensures.numbering in
    record {
      path = rw path' (path_finished d rows m s.path.items bs ws s.places.items s.numbers.items s.letters.items s.order.items s.count b to.places.items to.numbers.items to.order.items h.path knots opens h.met looked h.numbered h.few over numbering);
      knots = rw (path', bounds') (knots_finished d rows m s.path.items bs ws s.places.items s.numbers.items s.letters.items s.order.items s.count b to.places.items to.numbers.items to.order.items h.path knots opens h.met looked h.numbered h.few over numbering);
      walk = rw (path', bounds', walk', letters') (walk_finished d rows m s.path.items bs ws s.places.items s.numbers.items s.letters.items s.order.items s.count b to.places.items to.numbers.items to.order.items h.path knots opens h.met looked h.numbered h.few over numbering);
      met = rw (path', letters', c.number.ensures.count) (met_finished d rows m s.path.items bs ws s.places.items s.numbers.items s.letters.items s.order.items s.count b to.places.items to.numbers.items to.order.items h.path knots opens h.met looked h.numbered h.few over numbering);
      looked = rw (path', bounds', letters', c.number.ensures.count) (looked_finished d rows m s.path.items bs ws s.places.items s.numbers.items s.letters.items s.order.items s.count b to.places.items to.numbers.items to.order.items h.path knots opens h.met looked h.numbered h.few over numbering);
      numbered = rw c.number.ensures.count (numbered_finished d rows m s.path.items bs ws s.places.items s.numbers.items s.letters.items s.order.items s.count b to.places.items to.numbers.items to.order.items h.path knots opens h.met looked h.numbered h.few over numbering);
      few = rw (path', letters', c.number.ensures.count) (few_finished d rows m s.path.items bs ws s.places.items s.numbers.items s.letters.items s.order.items s.count b to.places.items to.numbers.items to.order.items h.path knots opens h.met looked h.numbered h.few over numbering);
      listed = rw (path', letters') (listed_finished d rows m s.path.items bs ws s.places.items s.numbers.items s.letters.items s.order.items s.count b to.places.items to.numbers.items to.order.items h.path knots opens h.met looked h.numbered h.few over numbering h.listed);
    }

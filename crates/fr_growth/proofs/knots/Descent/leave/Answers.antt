use Rattle.std.proofs.Common.{arith, ◌≡◌, ◌<◌, ◌-◌, ◌++◌, ◌∷◌, [], length, sym, ◌∙◌}
use Rattle.fr_growth.specs.Knots.{last_of}
use Rattle.std.proofs.lemmas.List.{get_or_default}
use Rattle.fr_growth.proofs.KnotLaws.{popped, walk_left}
use Rattle.fr_growth.proofs.knots.Descent.leave.Goals as goal

pub returns-clause-descent : goal.returns-clause-descent
returns-clause-descent c =
    let m = c.machine-known.ensures.valid in
    let d = c.args.m.now.alphabet in
    let rows = c.args.m.now.rows in
    let s = c.args.self.now in
    let h = c.requires.descent in
    let split : s.walk.items ≡ c.pop.new.self.items ++ c.args.place ∷ [] = popped s.walk.items c.pop.new.self.items _ c.args.place c.requires.some c.pop.ensures.rest s.walk.ok.0 (sym c.requires.place) in
    let on : c.args.place < length s.path.items = omega (arith, c.requires.place, c.requires.some, h.walk.places.below (length s.walk.items - 1) (omega (arith, c.requires.some))) in
    let some : 0 < length s.bounds.items = (h.knots.first (omega (arith, on))).0 in
    let at : c.len.result - 1 ≡ length s.bounds.items - 1 = omega (arith, c.len.ensures, s.bounds.ok.0) in
    let last : last_of s.bounds.items ≡ c.index.result.now = sym ((rw at at c.index.ensures) ∙ get_or_default s.bounds.items (length s.bounds.items - 1) c.index.result.now 0 (omega (arith, some))) in
    record {
      path = h.path;
      knots = h.knots;
      walk = walk_left d rows m s.path.items s.bounds.items c.pop.new.self.items s.letters.items c.args.place (rw split at h.walk) h.knots.begins some (λ z. c.if-index-place.false (sym last ∙ z)) c.requires.whole;
      met = h.met;
      looked = h.looked;
      numbered = h.numbered;
      few = h.few;
      listed = h.listed;
    }

use Rattle.std.proofs.Common.{arith, ℕ, ◌≡◌, ◌<◌, ◌≤◌, ◌-◌, ◌++◌, [], ◌∷◌, length, get_or, ap, sym, ◌∙◌, Vec, Global}
use Rattle.fr_model.specs.Automata.{IsReached}
use Rattle.fr_machine.specs.Rows.{states_of}
use Rattle.fr_growth.specs.Knots.{last_of}
use Rattle.fr_growth.proofs.KnotLaws.{popped, read_at, read_last, last-most, begins-le, walk_place, knots_together, walk_together, looked_together}
use Rattle.fr_growth.proofs.knots.Descent.draw_together.Goals as goal

pub loop-self-preserved : goal.loop-self-preserved
loop-self-preserved c =
    let m = c.machine-known.ensures.valid in
    let d = c.args.m.now.alphabet in
    let rows = c.args.m.now.rows in
    let s = c.loop-self.self in
    let i = c.loop-self.invariant in
    let h = i.search in
    let q = c.index-begin.result.now in
    let b = c.index.result.now in
    let t = c.args.target in
    let some : 0 < length s.walk.items = omega (arith, c.requires.some, ap (λ (v : Vec ℕ Global). length v.items) i.walk) in
    let top : last_of s.walk.items ≡ c.args.place = ap (λ (v : Vec ℕ Global). last_of v.items) i.walk ∙ sym c.requires.place in
    let on : c.args.place < length s.path.items = omega (arith, top, walk_place d rows m s.path.items s.bounds.items s.walk.items s.letters.items h.walk some) in
    let place : q ≡ get_or s.places.items t 0 = read_at c.args.self.now.places.items t q (omega (arith, c.requires.descent.path.size, c.requires.target)) c.index-begin.ensures ∙ sym (ap (λ (v : Vec ℕ Global). get_or v.items t 0) i.places) in
    let has : 0 < length s.bounds.items = (h.knots.first (omega (arith, on))).0 in
    let last : b ≡ last_of s.bounds.items = read_last s.bounds.items c.len.result b has (omega (arith, c.len.ensures, s.bounds.ok.0)) c.index.ensures in
    let ks = c.pop.new.self.items in
    let split : s.bounds.items ≡ ks ++ b ∷ [] = popped s.bounds.items ks _ b has c.pop.ensures.rest s.bounds.ok.0 (sym last) in
    let at : b ≤ c.args.place = omega (arith, last, top, begins-le d s.path.items s.bounds.items s.walk.items s.letters.items (length s.bounds.items - 1) h.walk (omega (arith, has))) in
    let before : q < b = c.loop-self-test.true in
    let lq : q < length s.path.items = omega (arith, before, at, on) in
    let row : get_or s.path.items q 0 ≡ t = ap (λ z. get_or s.path.items z 0) place ∙ h.path.back t c.requires.target (omega (arith, place, lq)) in
    let same : get_or s.path.items c.args.place 0 ≡ get_or c.args.self.now.path.items c.args.place 0 = ap (λ (v : Vec ℕ Global). get_or v.items c.args.place 0) i.path in
    let back : IsReached d (states_of rows) (get_or s.path.items c.args.place 0) (get_or s.path.items q 0) = rw (row, same) c.requires.reached in
    record {
      search = record {
        path = h.path;
        knots = knots_together d rows m s.path.items ks b (rw split at h.knots) c.args.place q on lq at before back;
        walk = walk_together d rows m s.path.items ks s.walk.items s.letters.items b (rw split at h.walk);
        met = h.met;
        looked = looked_together d rows m s.path.items ks s.places.items s.numbers.items s.letters.items b s.count (rw split at h.looked);
        numbered = h.numbered;
        few = h.few;
        listed = h.listed;
      };
      path = i.path;
      walk = i.walk;
      letters = i.letters;
      places = i.places;
    }

pub returns-clause-last : goal.returns-clause-last
returns-clause-last c = λ j l.
    let s = c.loop-self.self in
    let i = c.loop-self.invariant in
    let q = c.index-begin.result.now in
    let b = c.index.result.now in
    let t = c.args.target in
    let place : q ≡ get_or s.places.items t 0 = read_at c.args.self.now.places.items t q (omega (arith, c.requires.descent.path.size, c.requires.target)) c.index-begin.ensures ∙ sym (ap (λ (v : Vec ℕ Global). get_or v.items t 0) i.places) in
    let last : b ≡ last_of s.bounds.items = read_last s.bounds.items c.len.result b (omega (arith, l)) (omega (arith, c.len.ensures, s.bounds.ok.0)) c.index.ensures in
    omega (arith, place, last, c.loop-self-test.false, last-most s.bounds.items (length s.path.items) j i.search.knots.begins l)

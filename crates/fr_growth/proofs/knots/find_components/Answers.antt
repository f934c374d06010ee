use Rattle.std.proofs.Common.{arith, ◌≡◌, length, sym, ◌∙◌}
use Rattle.std.specs.Vec.{vec_len}
use Rattle.std.proofs.lemmas.Bool.{eqb-true}
use Rattle.fr_growth.proofs.KnotLaws.{all_numbered}
use Rattle.fr_growth.proofs.knots.find_components.Goals as goal

pub returns-clause-numbers : goal.returns-clause-numbers
returns-clause-numbers c =
    let m = c.machine-known.ensures.valid in
    let s = c.loop-descent.descent in
    let h = c.loop-descent.invariant.search in
    let none : length s.walk.items ≡ 0 = omega (arith, s.walk.ok.0, eqb-true (vec_len s.walk) 0 (sym c.is_empty.ensures ∙ c.loop-descent-test.false)) in
    (all_numbered c.args.m.now.alphabet c.args.m.now.rows m s.path.items s.bounds.items s.walk.items s.places.items s.numbers.items s.letters.items s.order.items s.count none h.path h.knots h.walk h.met h.numbered h.few h.listed c.loop-descent.invariant.begun).0

pub returns-clause-order : goal.returns-clause-order
returns-clause-order c =
    let m = c.machine-known.ensures.valid in
    let s = c.loop-descent.descent in
    let h = c.loop-descent.invariant.search in
    let none : length s.walk.items ≡ 0 = omega (arith, s.walk.ok.0, eqb-true (vec_len s.walk) 0 (sym c.is_empty.ensures ∙ c.loop-descent-test.false)) in
    (all_numbered c.args.m.now.alphabet c.args.m.now.rows m s.path.items s.bounds.items s.walk.items s.places.items s.numbers.items s.letters.items s.order.items s.count none h.path h.knots h.walk h.met h.numbered h.few h.listed c.loop-descent.invariant.begun).1

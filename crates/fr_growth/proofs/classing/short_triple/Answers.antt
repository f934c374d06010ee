use Rattle.std.proofs.Common.{◌≡◌, ◌≢◌, [], length, get_or, ◌∙◌}
use Rattle.fr_alphabet.proofs.Readings.{IsWord-weaker}
use Rattle.fr_growth.specs.Doubling.{IsOnly}
use Rattle.fr_growth.specs.Layers.{IsLeastPair}
use Rattle.fr_growth.proofs.TripleLaws.{triple_here, numbers_here}
use Rattle.fr_growth.proofs.classing.short_triple.Goals as goal

pub of_letters-requires-in-Some-clause-valid : goal.of_letters-requires-in-Some-clause-valid
of_letters-requires-in-Some-clause-valid c =
    let m = c.machine-known.ensures.valid in
    let backs = c.in-Some.backs in
    let lp : IsLeastPair c.args.m.now.alphabet c.args.m.now.rows c.deref.result.now 0 backs.first.items backs.second.items = rw c.in-Some.is at c.in_ok-backs.ensures.pair in
    IsWord-weaker c.args.m.now.alphabet 8 m.machine.letters backs.first.items lp.first.valid

pub of_letters-requires-in-Some-2-clause-valid : goal.of_letters-requires-in-Some-2-clause-valid
of_letters-requires-in-Some-2-clause-valid c =
    let m = c.machine-known.ensures.valid in
    let backs = c.in-Some.backs in
    let lp : IsLeastPair c.args.m.now.alphabet c.args.m.now.rows c.deref.result.now 0 backs.first.items backs.second.items = rw c.in-Some.is at c.in_ok-backs.ensures.pair in
    IsWord-weaker c.args.m.now.alphabet 8 m.machine.letters backs.second.items lp.second.valid

pub returns-in-Some-clause-class : goal.returns-in-Some-clause-class
returns-in-Some-clause-class c =
    let m = c.machine-known.ensures.valid in
    let rows = c.args.m.now.rows in
    let backs = c.in-Some.backs in
    let lp : IsLeastPair c.args.m.now.alphabet rows c.deref.result.now 0 backs.first.items backs.second.items = rw c.in-Some.is at c.in_ok-backs.ensures.pair in
    let live : get_or c.args.moving.now 0 0 ≢ 0 = c.if-moving-eq0.false in
    let hm : IsOnly (length rows) 0 c.deref.result.now = rw (c.size.ensures, ← c.deref.ensures.value) at c.in_ok-home.ensures in
    let empty : c.of_letters.result ≡ [] = c.of_letters.ensures ∙ c.new.ensures.items in
    rw (empty, c.of_letters-in-Some.ensures, c.of_letters-in-Some-2.ensures) (triple_here c.args.m.now.alphabet rows m c.args.moving.now c.requires.moving live c.deref.result.now hm backs.first.items backs.second.items lp)

pub returns-in-Some-clause-numbers : goal.returns-in-Some-clause-numbers
returns-in-Some-clause-numbers c =
    let m = c.machine-known.ensures.valid in
    let rows = c.args.m.now.rows in
    let backs = c.in-Some.backs in
    let lp : IsLeastPair c.args.m.now.alphabet rows c.deref.result.now 0 backs.first.items backs.second.items = rw c.in-Some.is at c.in_ok-backs.ensures.pair in
    let live : get_or c.args.moving.now 0 0 ≢ 0 = c.if-moving-eq0.false in
    let hm : IsOnly (length rows) 0 c.deref.result.now = rw (c.size.ensures, ← c.deref.ensures.value) at c.in_ok-home.ensures in
    let empty : c.of_letters.result ≡ [] = c.of_letters.ensures ∙ c.new.ensures.items in
    rw (empty, c.of_letters-in-Some.ensures) (numbers_here c.args.m.now.alphabet rows m c.args.moving.now c.requires.moving live c.deref.result.now hm backs.first.items backs.second.items lp)

use Rattle.std.proofs.Common.{◌≡◌, length}
use Rattle.fr_machine.specs.Rows.{states_of}
use Rattle.fr_model.specs.Automata.{state_after}
use Rattle.fr_alphabet.proofs.Readings.{IsWord-weaker}
use Rattle.fr_growth.specs.Doubling.{AreDoubling, IsOnly}
use Rattle.fr_growth.specs.Layers.{IsLeastWord, IsLeastPair}
use Rattle.fr_growth.proofs.TripleLaws.{at_enough, back_enough, least_triple, least_numbers}
use Rattle.fr_growth.proofs.classing.triple.Goals as goal

pub least_word-requires-clause-some : goal.least_word-requires-clause-some
least_word-requires-clause-some c =
    let m = c.machine-machine.ensures.valid in
    let rows = c.args.m.now.rows in
    let dm : AreDoubling (length rows) c.args.numbers.now c.args.returns.now c.in_ok-doubling.doubling.items = rw c.requires.numbers.count at c.in_ok-doubling.ensures in
    let s = c.requires.some in
    rw c.deref.ensures.value (at_enough c.args.m.now.alphabet c.args.m.now.rows m c.args.moving.now c.requires.moving c.args.numbers.now c.requires.numbers c.args.returns.now c.requires.returns c.in_ok-doubling.doubling.items dm s.0 s.1 s.2)

pub of_letters-at-requires-clause-valid : goal.of_letters-at-requires-clause-valid
of_letters-at-requires-clause-valid c =
    let m = c.machine-machine.ensures.valid in
    IsWord-weaker c.args.m.now.alphabet 8 m.machine.letters c.in_ok-letters.letters.items c.in_ok-letters.ensures.word.word.valid

pub least_pair-requires-clause-some : goal.least_pair-requires-clause-some
least_pair-requires-clause-some c =
    let m = c.machine-machine.ensures.valid in
    let rows = c.args.m.now.rows in
    let dm : AreDoubling (length rows) c.args.numbers.now c.args.returns.now c.in_ok-doubling.doubling.items = rw c.requires.numbers.count at c.in_ok-doubling.ensures in
    let letters = c.in_ok-letters.letters.items in
    let la : IsLeastWord c.args.m.now.alphabet rows c.in_ok-doubling.doubling.items 0 letters = rw c.deref.ensures.value at c.in_ok-letters.ensures.word in
    let h : c.section-h.result ≡ state_after (states_of rows) 0 letters = rw (c.machine-machine.ensures.value, c.of_letters-at.ensures) at c.section-h.ensures.place in
    let hm : IsOnly (length rows) (state_after (states_of rows) 0 letters) c.in_ok-home.home.items = rw (c.size-n.ensures, h) at c.in_ok-home.ensures in
    rw (c.deref-2.ensures.value, h) (back_enough c.args.m.now.alphabet c.args.m.now.rows m c.args.moving.now c.requires.moving c.args.numbers.now c.requires.numbers c.args.returns.now c.requires.returns c.in_ok-doubling.doubling.items dm letters la c.in_ok-home.home.items hm)

pub of_letters-requires-clause-valid : goal.of_letters-requires-clause-valid
of_letters-requires-clause-valid c =
    let m = c.machine-machine.ensures.valid in
    IsWord-weaker c.args.m.now.alphabet 8 m.machine.letters c.in_ok-backs.backs.first.items c.in_ok-backs.ensures.pair.first.valid

pub of_letters-requires-2-clause-valid : goal.of_letters-requires-2-clause-valid
of_letters-requires-2-clause-valid c =
    let m = c.machine-machine.ensures.valid in
    IsWord-weaker c.args.m.now.alphabet 8 m.machine.letters c.in_ok-backs.backs.second.items c.in_ok-backs.ensures.pair.second.valid

pub returns-clause-class : goal.returns-clause-class
returns-clause-class c =
    let m = c.machine-machine.ensures.valid in
    let rows = c.args.m.now.rows in
    let dm : AreDoubling (length rows) c.args.numbers.now c.args.returns.now c.in_ok-doubling.doubling.items = rw c.requires.numbers.count at c.in_ok-doubling.ensures in
    let letters = c.in_ok-letters.letters.items in
    let la : IsLeastWord c.args.m.now.alphabet rows c.in_ok-doubling.doubling.items 0 letters = rw c.deref.ensures.value at c.in_ok-letters.ensures.word in
    let h : c.section-h.result ≡ state_after (states_of rows) 0 letters = rw (c.machine-machine.ensures.value, c.of_letters-at.ensures) at c.section-h.ensures.place in
    let hm : IsOnly (length rows) (state_after (states_of rows) 0 letters) c.in_ok-home.home.items = rw (c.size-n.ensures, h) at c.in_ok-home.ensures in
    let lp : IsLeastPair c.args.m.now.alphabet rows c.in_ok-home.home.items (state_after (states_of rows) 0 letters) c.in_ok-backs.backs.first.items c.in_ok-backs.backs.second.items = rw (c.deref-2.ensures.value, h) at c.in_ok-backs.ensures.pair in
    rw (c.of_letters-at.ensures, c.of_letters.ensures, c.of_letters-2.ensures) (least_triple c.args.m.now.alphabet c.args.m.now.rows m c.args.moving.now c.requires.moving c.args.numbers.now c.requires.numbers c.args.returns.now c.requires.returns c.in_ok-doubling.doubling.items dm letters la c.in_ok-home.home.items hm c.in_ok-backs.backs.first.items c.in_ok-backs.backs.second.items lp)

pub returns-clause-numbers : goal.returns-clause-numbers
returns-clause-numbers c =
    let m = c.machine-machine.ensures.valid in
    let rows = c.args.m.now.rows in
    let dm : AreDoubling (length rows) c.args.numbers.now c.args.returns.now c.in_ok-doubling.doubling.items = rw c.requires.numbers.count at c.in_ok-doubling.ensures in
    let letters = c.in_ok-letters.letters.items in
    let la : IsLeastWord c.args.m.now.alphabet rows c.in_ok-doubling.doubling.items 0 letters = rw c.deref.ensures.value at c.in_ok-letters.ensures.word in
    let h : c.section-h.result ≡ state_after (states_of rows) 0 letters = rw (c.machine-machine.ensures.value, c.of_letters-at.ensures) at c.section-h.ensures.place in
    let hm : IsOnly (length rows) (state_after (states_of rows) 0 letters) c.in_ok-home.home.items = rw (c.size-n.ensures, h) at c.in_ok-home.ensures in
    let lp : IsLeastPair c.args.m.now.alphabet rows c.in_ok-home.home.items (state_after (states_of rows) 0 letters) c.in_ok-backs.backs.first.items c.in_ok-backs.backs.second.items = rw (c.deref-2.ensures.value, h) at c.in_ok-backs.ensures.pair in
    rw (c.of_letters-at.ensures, c.of_letters.ensures) (least_numbers c.args.m.now.alphabet c.args.m.now.rows m c.args.moving.now c.requires.moving c.args.numbers.now c.requires.numbers c.args.returns.now c.requires.returns c.in_ok-doubling.doubling.items dm letters la c.in_ok-home.home.items hm c.in_ok-backs.backs.first.items c.in_ok-backs.backs.second.items lp)

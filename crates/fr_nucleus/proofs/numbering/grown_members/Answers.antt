use Rattle.std.proofs.Common.{arith, ap, sym, subst, ◌≡◌, ◌<◌, ◌≤◌, length}
use Rattle.std.specs.List.{All}
use Rattle.fr_machine.specs.Rows.{IsMachine, row_at}
use Rattle.fr_minimal.proofs.ChoiceLaws.{classes_below}
use Rattle.fr_nucleus.specs.Numberings.{IsMemberRow}
use Rattle.fr_nucleus.proofs.NumberingLaws.{next_first, row_of_machine, next_known, AreGrown-more, IsMachine-grown}
use Rattle.fr_nucleus.proofs.numbering.grown_members.Goals as goal

pub first_rows-requires-clause-below : goal.first_rows-requires-clause-below
first_rows-requires-clause-below c =
    classes_below c.args.products.now.rows c.args.of.now c.requires.classes

pub first_rows-requires-clause-few : goal.first_rows-requires-clause-few
first_rows-requires-clause-few c = omega (arith, c.requires.classes.count, c.rows-products.ensures.valid.most)

pub bounds-rows-first : goal.bounds-rows-first
bounds-rows-first c =
    let of = c.args.of.now in
    let keys = c.args.walk.now.keys in
    let len : c.len-in-loop-classes.result ≡ length c.loop-classes.rows.items = omega (arith, c.len-in-loop-classes.ensures, c.loop-classes.rows.ok.0) in
    let lt : length c.loop-classes.rows.items < length keys = omega (arith, c.loop-classes-test.true, c.len.ensures, c.loop-classes.rows.ok.0, ap length c.keys-classes.ensures.value) in
    let u = c.requires.used (length c.loop-classes.rows.items) c.loop-classes.invariant.least lt in
    let f = next_first of c.in_ok-firsts.firsts.items c.keys-classes.result.now keys (length c.loop-classes.rows.items) c.len-in-loop-classes.result c.index-first.result.now c.in_ok-firsts.ensures c.keys-classes.ensures.value len c.index-first.ensures u.0 (omega (arith, u.1, c.requires.classes.count)) u.2 in
    omega (arith, f.0, c.requires.classes.count, ap length c.rows-in-loop-classes.ensures.value)

pub member_row-requires-clause-row : goal.member_row-requires-clause-row
member_row-requires-clause-row c =
    let of = c.args.of.now in
    let keys = c.args.walk.now.keys in
    let p = c.args.products.now in
    let len : c.len-in-loop-classes.result ≡ length c.loop-classes.rows.items = omega (arith, c.len-in-loop-classes.ensures, c.loop-classes.rows.ok.0) in
    let lt : length c.loop-classes.rows.items < length keys = omega (arith, c.loop-classes-test.true, c.len.ensures, c.loop-classes.rows.ok.0, ap length c.keys-classes.ensures.value) in
    let u = c.requires.used (length c.loop-classes.rows.items) c.loop-classes.invariant.least lt in
    let f = next_first of c.in_ok-firsts.firsts.items c.keys-classes.result.now keys (length c.loop-classes.rows.items) c.len-in-loop-classes.result c.index-first.result.now c.in_ok-firsts.ensures c.keys-classes.ensures.value len c.index-first.ensures u.0 (omega (arith, u.1, c.requires.classes.count)) u.2 in
    let size : length of ≡ length p.rows = c.requires.classes.count in
    (row_of_machine p.alphabet p.rows c.rows-in-loop-classes.result.now c.index-first.result.now (length of) c.index-rows-first.result c.rows-products.ensures.valid c.rows-in-loop-classes.ensures.value (omega (arith, f.0, c.requires.classes.count)) c.index-rows-first.is size).1

pub member_row-requires-clause-known : goal.member_row-requires-clause-known
member_row-requires-clause-known c = λ x k.
    let of = c.args.of.now in
    let keys = c.args.walk.now.keys in
    let p = c.args.products.now in
    let i = length c.loop-classes.rows.items in
    let first = c.index-first.result.now in
    let len : c.len-in-loop-classes.result ≡ i = omega (arith, c.len-in-loop-classes.ensures, c.loop-classes.rows.ok.0) in
    let lt : i < length keys = omega (arith, c.loop-classes-test.true, c.len.ensures, c.loop-classes.rows.ok.0, ap length c.keys-classes.ensures.value) in
    let u = c.requires.used i c.loop-classes.invariant.least lt in
    let f = next_first of c.in_ok-firsts.firsts.items c.keys-classes.result.now keys i c.len-in-loop-classes.result first c.in_ok-firsts.ensures c.keys-classes.ensures.value len c.index-first.ensures u.0 (omega (arith, u.1, c.requires.classes.count)) u.2 in
    let fl : first < length p.rows = omega (arith, f.0, c.requires.classes.count) in
    let size : length of ≡ length p.rows = c.requires.classes.count in
    let r = row_of_machine p.alphabet p.rows c.rows-in-loop-classes.result.now first (length of) c.index-rows-first.result c.rows-products.ensures.valid c.rows-in-loop-classes.ensures.value fl c.index-rows-first.is size in
    let xd : x < p.alphabet = omega (arith, k, r.2) in
    next_known of keys p.rows c.index-rows-first.result first x r.0 (c.requires.closed i first x c.loop-classes.invariant.least lt fl f.1 xd)

pub loop-classes-preserved : goal.loop-classes-preserved
loop-classes-preserved c =
    let of = c.args.of.now in
    let keys = c.args.walk.now.keys in
    let p = c.args.products.now in
    let i = length c.loop-classes.rows.items in
    let first = c.index-first.result.now in
    let len : c.len-in-loop-classes.result ≡ i = omega (arith, c.len-in-loop-classes.ensures, c.loop-classes.rows.ok.0) in
    let lt : i < length keys = omega (arith, c.loop-classes-test.true, c.len.ensures, c.loop-classes.rows.ok.0, ap length c.keys-classes.ensures.value) in
    let u = c.requires.used i c.loop-classes.invariant.least lt in
    let f = next_first of c.in_ok-firsts.firsts.items c.keys-classes.result.now keys i c.len-in-loop-classes.result first c.in_ok-firsts.ensures c.keys-classes.ensures.value len c.index-first.ensures u.0 (omega (arith, u.1, c.requires.classes.count)) u.2 in
    let fl : first < length p.rows = omega (arith, f.0, c.requires.classes.count) in
    let size : length of ≡ length p.rows = c.requires.classes.count in
    let r = row_of_machine p.alphabet p.rows c.rows-in-loop-classes.result.now first (length of) c.index-rows-first.result c.rows-products.ensures.valid c.rows-in-loop-classes.ensures.value fl c.index-rows-first.is size in
    let member : IsMemberRow of keys (row_at p.rows first) c.member_row.result =
    subst (λ q. IsMemberRow of keys q c.member_row.result) r.0 c.member_row.ensures in
    AreGrown-more of keys p.rows c.args.known.now.rows c.loop-classes.rows.items c.push.new.self.items first c.member_row.result c.loop-classes.invariant lt fl f.1 member c.in_ok-push.ensures.items

pub from_rows-requires : goal.from_rows-requires
from_rows-requires c =
    let of = c.args.of.now in
    let keys = c.args.walk.now.keys in
    let p = c.args.products.now in
    let all : length keys ≤ length c.loop-classes.rows.items = omega (arith, c.loop-classes-test.false, c.len.ensures, c.loop-classes.rows.ok.0, ap length c.keys-classes.ensures.value) in
    let o : IsMachine p.alphabet c.args.known.now.rows = subst (λ d. IsMachine d c.args.known.now.rows) c.requires.alphabets c.rows.ensures.valid in
    let m = IsMachine-grown p.alphabet of keys p.rows c.args.known.now.rows c.loop-classes.rows.items c.rows-products.ensures.valid o c.requires.keys.few c.loop-classes.invariant all in
    subst (λ d. IsMachine d c.loop-classes.rows.items) (sym c.alphabet.ensures.value) m

pub member_row-requires-clause-below : goal.member_row-requires-clause-below
member_row-requires-clause-below c =
    let of = c.args.of.now in
    subst (λ k. All (λ x. x < k) of) (sym c.requires.bound) (classes_below c.args.products.now.rows of c.requires.classes)
